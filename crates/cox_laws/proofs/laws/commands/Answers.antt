-- What single commands are answered.
use Rattle.std.proofs.Common.{refl, codes}
use Rattle.cox_command.specs.declared.inquiry.OneWord.TheVariants as one
use Rattle.cox_command.specs.declared.inquiry.TwoWord.TheVariants as two
use Rattle.cox_command.specs.declared.inquiry.RowKind.TheVariants as row
use Rattle.cox_command.specs.declared.inquiry.EntryKind.TheVariants as entry
use Rattle.cox_command.specs.declared.inquiry.NoWord.TheVariants as whole
use Rattle.cox_laws.proofs.AnsweredLines.{one-answered, two-answered, group-answered, work-answered}
use Rattle.cox_laws.proofs.laws.commands.Goals as goal

pub returns-clause-compute : goal.returns-clause-compute
returns-clause-compute c state g w v set reads = one-answered state g set (codes "compute") one.Compute w v refl reads

pub returns-clause-length : goal.returns-clause-length
returns-clause-length c state g w v set reads = one-answered state g set (codes "length") one.Length w v refl reads

pub returns-clause-inverse : goal.returns-clause-inverse
returns-clause-inverse c state g w v set reads = one-answered state g set (codes "inverse") one.Inverse w v refl reads

pub returns-clause-descent : goal.returns-clause-descent
returns-clause-descent c state g w v set reads = one-answered state g set (codes "descent") one.Descent w v refl reads

pub returns-clause-coatoms : goal.returns-clause-coatoms
returns-clause-coatoms c state g w v set reads = one-answered state g set (codes "coatoms") one.Coatoms w v refl reads

pub returns-clause-betti : goal.returns-clause-betti
returns-clause-betti c state g w v set reads = one-answered state g set (codes "betti") one.Betti w v refl reads

pub returns-clause-klbasis : goal.returns-clause-klbasis
returns-clause-klbasis c state g w v set reads = one-answered state g set (codes "klbasis") (one.OfRow row.Klbasis) w v refl reads

pub returns-clause-ihbetti : goal.returns-clause-ihbetti
returns-clause-ihbetti c state g w v set reads = one-answered state g set (codes "ihbetti") (one.OfRow row.Ihbetti) w v refl reads

pub returns-clause-extremals : goal.returns-clause-extremals
returns-clause-extremals c state g w v set reads = one-answered state g set (codes "extremals") (one.OfRow row.Extremals) w v refl reads

pub returns-clause-cert : goal.returns-clause-cert
returns-clause-cert c state g w v set reads = one-answered state g set (codes "cert") one.Cert w v refl reads

pub returns-clause-left_module : goal.returns-clause-left_module
returns-clause-left_module c state g w v set reads = one-answered state g set (codes "module") one.Module w v refl reads

pub returns-clause-inorder : goal.returns-clause-inorder
returns-clause-inorder c state g y w u v set first second = two-answered state g set (codes "inorder") two.Inorder y w u v refl first second

pub returns-clause-interval : goal.returns-clause-interval
returns-clause-interval c state g y w u v set first second =
    two-answered state g set (codes "interval") two.Interval y w u v refl first second

pub returns-clause-rpol : goal.returns-clause-rpol
returns-clause-rpol c state g y w u v set first second = two-answered state g set (codes "rpol") two.Rpol y w u v refl first second

pub returns-clause-pol : goal.returns-clause-pol
returns-clause-pol c state g y w u v set first second =
    two-answered state g set (codes "pol") (two.OfEntry entry.Pol) y w u v refl first second

pub returns-clause-invpol : goal.returns-clause-invpol
returns-clause-invpol c state g y w u v set first second = two-answered state g set (codes "invpol") two.Invpol y w u v refl first second

pub returns-clause-mu : goal.returns-clause-mu
returns-clause-mu c state g y w u v set first second =
    two-answered state g set (codes "mu") (two.OfEntry entry.Mu) y w u v refl first second

pub returns-clause-lwgraph : goal.returns-clause-lwgraph
returns-clause-lwgraph c state g set = group-answered state g set (codes "lwgraph") whole.Lwgraph refl

pub returns-clause-rwgraph : goal.returns-clause-rwgraph
returns-clause-rwgraph c state g set = group-answered state g set (codes "rwgraph") whole.Rwgraph refl

pub returns-clause-lcells : goal.returns-clause-lcells
returns-clause-lcells c state g set = group-answered state g set (codes "lcells") whole.Lcells refl

pub returns-clause-rcells : goal.returns-clause-rcells
returns-clause-rcells c state g set = group-answered state g set (codes "rcells") whole.Rcells refl

pub returns-clause-lrcells : goal.returns-clause-lrcells
returns-clause-lrcells c state g set = group-answered state g set (codes "lrcells") whole.Lrcells refl

pub returns-clause-work : goal.returns-clause-work
returns-clause-work c state g start count set first second = work-answered state g set (codes "work") start count refl first second
