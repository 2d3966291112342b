-- The rows so far are there, within the limit.
use Rattle.std.proofs.Common.{ℕ, ◌<◌, List}
use Rattle.cox_base.specs.IntegerMatrix.{integer_matrix}
use Rattle.cox_context.specs.Numbers.{word_at}
use Rattle.cox_row_builder.specs.LargeMembers.{IsWithinLimit}
use Rattle.cox_inverse.proofs.finite.LongestElement.of.Given as goal

abbrev pub invariant-loop-i : goal.invariant-loop-i
invariant-loop-i g l = record {
  there : (k : ℕ) → k < l.i → g.L.LowerRows.holds l.rows k;
  small : (x : List ℕ) (k : ℕ) → k < l.i → IsWithinLimit (integer_matrix l.ctx.matrix) l.limit x (word_at l.ctx.members k);
}
