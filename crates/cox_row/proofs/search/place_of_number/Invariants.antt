-- A place of the number is among those that are left.
use Rattle.std.proofs.Common.{◌≡◌, ℕ, ◌+◌, ◌<◌, ◌≤◌, length}
use Rattle.cox_row.specs.Rising.{number_at}
use Rattle.cox_row.proofs.search.place_of_number.Given as goal

abbrev pub invariant-loop-size : goal.invariant-loop-size
invariant-loop-size l = record {
  some : 0 < l.size;
  within : l.start + l.size ≤ length l.numbers;
  left : (k : ℕ) → k < length l.numbers → number_at l.numbers k ≡ l.x → (l.start ≤ k) × (k < l.start + l.size);
}

abbrev pub decreases-loop-size : goal.decreases-loop-size
decreases-loop-size l = l.size
