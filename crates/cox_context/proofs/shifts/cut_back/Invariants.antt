-- The entries before the place at hand are cut, and the others are old.
use Rattle.std.proofs.Common.{◌≡◌, ℕ, ◌<◌, ◌≤◌, get_or, length}
use Rattle.cox_context.specs.Shifts.{entry_number}
use Rattle.cox_context.specs.Rows.{number_below}
use Rattle.cox_context.proofs.shifts.cut_back.Given as goal

abbrev pub invariant-loop-number : goal.invariant-loop-number
invariant-loop-number l = record {
  size : length l.number-items ≡ length l.initial.number-items;
  done : (k : ℕ) → k < l.number-index → entry_number (get_or l.number-items k 0)
      ≡ number_below l.count (entry_number (get_or l.initial.number-items k 0));
  rest : (k : ℕ) → l.number-index ≤ k → get_or l.number-items k 0 ≡ get_or l.initial.number-items k 0;
}
