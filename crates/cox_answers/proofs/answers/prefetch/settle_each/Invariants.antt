-- The rows that were there are there, and those of the members so far are made, or beyond the limits.
use Rattle.std.proofs.Common.{ℕ, ◌<◌}
use Rattle.cox_row.specs.Rising.{number_at}
use Rattle.cox_answers.specs.Kept.{IsMore, IsMadeOrBeyond}
use Rattle.cox_answers.proofs.answers.prefetch.settle_each.Given as goal

abbrev pub invariant-each : goal.invariant-each
invariant-each l = record {
  more : IsMore l.fn.rows l.rows;
  settled : (k : ℕ) → k < l.i-index → IsMadeOrBeyond l.rows (number_at l.numbers k);
}
