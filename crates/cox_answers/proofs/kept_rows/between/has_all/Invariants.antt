-- The rows of the members so far are there, and none is beyond the limits.
use Rattle.std.proofs.Common.{ℕ, ◌<◌}
use Rattle.cox_base.specs.IntegerMatrix.{integer_matrix}
use Rattle.cox_context.specs.Numbers.{word_at}
use Rattle.cox_rows.specs.Beyond.{IsBeyond}
use Rattle.cox_rows.specs.Holding.{HasRow}
use Rattle.cox_answers.proofs.kept_rows.between.has_all.Given as goal

abbrev pub invariant-loop-i : goal.invariant-loop-i
invariant-loop-i l = record {
  there : (k : ℕ) → k < l.i → HasRow l.rows k;
  small : (k : ℕ) → k < l.i → IsBeyond (integer_matrix l.rows.elements.matrix) l.rows.limit (word_at l.rows.elements.members k) → ⊥;
}
