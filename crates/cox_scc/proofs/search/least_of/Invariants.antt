-- The least of the members so far.
use Rattle.std.proofs.Common.{ℕ, ◌<◌, ◌≤◌, slice_index, Contains}
use Rattle.cox_scc.proofs.search.least_of.Given as goal

abbrev pub invariant-loop-member : goal.invariant-loop-member
invariant-loop-member l = record {
  member : Contains l.members l.least;
  least : (k : ℕ) → k < l.member-index → l.least ≤ slice_index l.members k;
}
