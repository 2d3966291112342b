-- The proof of `Coxeter::entry`.
use Rattle.std.proofs.Common.{arith}
use Rattle.std.proofs.lemmas.Grind.{common_steps}
use Rattle.cox_base.proofs.Entries.{entry_of-small}
use Rattle.cox_base.proofs.coxeter.Coxeter.entry.Goals as goal

pub returns-clause-value : goal.returns-clause-value
returns-clause-value c = grind (arith, common_steps)

pub returns-clause-small : goal.returns-clause-small
returns-clause-small c = rw (returns-clause-value c) (entry_of-small c.args.self.now c.args.s c.args.t)
