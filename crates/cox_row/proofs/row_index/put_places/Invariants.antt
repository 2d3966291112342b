-- The numbers before the place at hand have their places.
use Rattle.std.proofs.Common.{◌≡◌, ℕ, ◌<◌, length}
use Rattle.cox_row.specs.Rising.{number_at}
use Rattle.cox_row.proofs.row_index.put_places.Given as goal

abbrev pub invariant-loop-k : goal.invariant-loop-k
invariant-loop-k l = record {
  size : length l.entries ≡ length l.initial.entries;
  placed : (j : ℕ) → j < l.k → number_at l.entries (number_at l.numbers j) ≡ j;
}
