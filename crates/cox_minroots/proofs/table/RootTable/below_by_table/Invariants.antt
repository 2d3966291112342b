-- What is left of y is below what is left of w exactly where y is below w.
use Rattle.std.proofs.Common.{length}
use Rattle.cox_base.specs.IntegerMatrix.{integer_matrix}
use Rattle.cox_minroots.proofs.Lifting.{IsLifted}
use Rattle.cox_minroots.proofs.table.RootTable.below_by_table.Given as goal

abbrev pub invariant-loop-s : goal.invariant-loop-s
invariant-loop-s l = IsLifted (integer_matrix l.fn.self) l.fn.y.items l.fn.w.items l.small.items l.large.items

abbrev pub decreases-loop-s : goal.decreases-loop-s
decreases-loop-s l = length l.large.items
