-- The entries so far, and there is room for the rest.
use Rattle.std.proofs.Common.{◌≡◌, ◌≤◌, length, vec_capacity}
use Rattle.cox_context.specs.Shifts.{AreNarrow}
use Rattle.cox_context.proofs.shifts.narrowed.Given as goal

abbrev pub invariant-loop-number : goal.invariant-loop-number
invariant-loop-number l = record {
  size : length l.narrow.items ≡ l.number-index;
  narrow : AreNarrow l.table l.narrow.items;
  room : length l.table ≤ vec_capacity l.narrow;
}
