-- The marks before k are those of both, and the others are as they were.
use Rattle.std.proofs.Common.{◌≡◌, ℕ, ◌<◌, ◌≤◌, false, ◌||◌, slice_index_or}
use Rattle.cox_fill_core.proofs.lists.add_each.Given as goal

abbrev pub invariant-loop-k : goal.invariant-loop-k
invariant-loop-k l =
    ((i : ℕ) → i < l.k → slice_index_or l.known i false ≡ (slice_index_or l.initial.known i false || slice_index_or l.other i false))
    × ((i : ℕ) → l.k ≤ i → slice_index_or l.known i false ≡ slice_index_or l.initial.known i false)
