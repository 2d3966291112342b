-- The law `symmetric`.
use Rattle.cox_base.proofs.Entries.{label-symmetric}
use Rattle.cox_base.proofs.laws.symmetric.Goals as goal

pub returns : goal.returns
returns c = label-symmetric c.args.g.now
