-- The places from the count on are after the place.
use Rattle.std.proofs.Common.{ℕ, ◌<◌, ◌≤◌, length, slice_index}
use Rattle.cox_scc.proofs.search.count_up_to.Given as goal

abbrev pub invariant-loop-count : goal.invariant-loop-count
invariant-loop-count l = record {
  within : l.count ≤ length l.places;
  after : (k : ℕ) → l.count ≤ k → k < length l.places → l.place < slice_index l.places k;
}

abbrev pub decreases-loop-count : goal.decreases-loop-count
decreases-loop-count l = l.count
