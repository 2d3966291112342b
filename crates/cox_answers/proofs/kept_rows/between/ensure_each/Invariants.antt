-- The rows of the members so far are there, and need nothing beyond the limits.
use Rattle.std.proofs.Common.{ℕ, ◌<◌}
use Rattle.cox_base.specs.IntegerMatrix.{integer_matrix}
use Rattle.cox_context.specs.Numbers.{word_at}
use Rattle.cox_row.specs.Rising.{number_at}
use Rattle.cox_rows.specs.Beyond.{NeedsBeyond}
use Rattle.cox_rows.specs.Holding.{HasRow}
use Rattle.cox_answers.specs.Kept.{IsMore}
use Rattle.cox_answers.proofs.kept_rows.between.ensure_each.Given as goal

abbrev pub invariant-each : goal.invariant-each
invariant-each l = record {
  same : IsMore l.fn.rows l.rows;
  there : (k : ℕ) → k < l.z-index → HasRow l.rows (number_at l.numbers k);
  small : (k : ℕ) → k < l.z-index
      → NeedsBeyond (integer_matrix l.fn.rows.elements.matrix) l.fn.rows.limit
      (word_at l.fn.rows.elements.members (number_at l.numbers k)) → ⊥;
}
