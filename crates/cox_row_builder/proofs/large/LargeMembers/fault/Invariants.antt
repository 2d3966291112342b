-- No member so far has a coefficient above the limit.
use Rattle.std.proofs.Common.{ℕ, ◌+◌, ◌<◌, ℤ, pos}
use Rattle.std.specs.Prelude.{◌≤ℤ◌}
use Rattle.cox_base.specs.IntegerMatrix.{integer_matrix}
use Rattle.cox_context.specs.Numbers.{word_at}
use Rattle.cox_row_builder.specs.Limits.{IsLargeCoefficient}
use Rattle.cox_row_builder.specs.LargeMembers.{AreLarge}
use Rattle.cox_row_builder.proofs.large.LargeMembers.fault.Given as goal

abbrev pub invariant-loop-x : goal.invariant-loop-x
invariant-loop-x l = (limit : ℤ) → pos 0 ≤ℤ limit
    → AreLarge (integer_matrix l.ctx.matrix) l.ctx.members (word_at l.ctx.members l.i) limit (l.i + 1) l.self.numbers.items
    l.self.coefficients.items
    → (z k : ℕ) (c : ℤ) → z < l.x
    → IsLargeCoefficient (integer_matrix l.ctx.matrix) limit (word_at l.ctx.members z) (word_at l.ctx.members l.i) k c → ⊥
