-- No letter before s is a right descent.
use Rattle.std.proofs.Common.{ℕ, ◌≡◌, ◌<◌, ◌≤◌}
use Rattle.cox_base.specs.IntegerMatrix.{integer_matrix}
use Rattle.cox_base.specs.Descents.{IsRightDescent}
use Rattle.cox_minroots.proofs.table.RootTable.take_least.Given as goal

abbrev pub invariant-loop-s : goal.invariant-loop-s
invariant-loop-s l = (l.v.items ≡ l.initial.v.items)
    × ((t : ℕ) → 1 ≤ t → t < l.s → IsRightDescent (integer_matrix l.fn.self) l.initial.v.items t → ⊥)
