-- What is left of y, and of the word of the top.
use Rattle.std.proofs.Common.{◌<◌, ℕ, List, length, drop, IfSome}
use Rattle.cox_base.specs.IntegerMatrix.{integer_matrix}
use Rattle.cox_context.specs.Growth.{AreLower}
use Rattle.cox_context.proofs.BelowTop.{IsLeft}
use Rattle.cox_context.proofs.lifting.lifts.Given as goal

abbrev pub invariant-loop-t : goal.invariant-loop-t
invariant-loop-t l = record {
  inside : IfSome l.at (λ i. i < length l.shifts.members);
  settled : (y : List ℕ) → AreLower (integer_matrix l.shifts.matrix) l.shifts.members y l.lower
      → IsLeft (integer_matrix l.shifts.matrix) l.shifts.members y l.top.items (drop l.t-index l.t-items) l.at;
}
