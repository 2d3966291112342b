-- There is no guard so far, and there is room for the other places.
use Rattle.std.proofs.Common.{◌≡◌, ◌≤◌, ℕ, length, None, vec_capacity}
use Rattle.cox_workers.specs.Guarded.{guard_at}
use Rattle.cox_workers.proofs.read_rows.no_guards.Given as goal

abbrev pub invariant-loop : goal.invariant-loop
invariant-loop l = record {
  room : l.members ≤ vec_capacity l.guards;
  count : length l.guards.items ≡ l.counter;
  none : (i : ℕ) → guard_at l.guards.items i ≡ None;
}
