-- The edges so far lead to vertices that were seen, and the least of their places is known.
use Rattle.std.proofs.Common.{◌≡◌, ℕ, ◌-◌, ◌<◌, ◌≤◌, ◌⊎◌, true, false, slice_index}
use Rattle.std.specs.Prelude.{slice_index_or}
use Rattle.cox_scc.proofs.search.follow.Given as goal

abbrev pub invariant-loop-next : goal.invariant-loop-next
invariant-loop-next l = record {
  begun : l.fn.here.next ≤ l.next;
  within : l.next ≤ l.end;
  was_seen : (e : ℕ) → l.fn.here.next ≤ e → e < l.next → slice_index_or l.seen (slice_index l.targets e) false ≡ true;
  below : l.low ≤ l.fn.here.place;
  least : (e : ℕ) → l.fn.here.next ≤ e → e < l.next → l.low ≤ slice_index l.places (slice_index l.targets e);
  met : (l.low ≡ l.fn.here.place)
      ⊎ ((e : ℕ) × (l.fn.here.next ≤ e) × (e < l.next) × (l.low ≡ slice_index l.places (slice_index l.targets e)));
}

abbrev pub decreases-loop-next : goal.decreases-loop-next
decreases-loop-next l = l.end - l.next
