-- More roots than the limit are more small roots.
use Rattle.std.proofs.Common.{refl}
use Rattle.cox_base.specs.IntegerMatrix.{integer_matrix}
use Rattle.cox_minroots.proofs.SmallRootLists.{more-than}
use Rattle.cox_minroots.proofs.closure.add_steps_within.Goals as goal

pub returns-then-len-max-clause-fault : goal.returns-then-len-max-clause-fault
returns-then-len-max-clause-fault c = (
  refl,
  more-than (integer_matrix c.args.g.now) c.args.max c.args.roots.now c.requires.small (rw c.len.ensures at c.if-len-max.true),
)
