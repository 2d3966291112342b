-- The sums of the first members have their products, and the others are as they were.
use Rattle.std.proofs.Common.{◌≡◌, ℕ, ◌<◌, ◌≤◌, length}
use Rattle.cox_rpoly.specs.Terms.{numbered}
use Rattle.cox_rowcheck.specs.MemberSums.{HasAdded}
use Rattle.cox_rowcheck.proofs.sums.add_column.Given as goal

abbrev pub invariant-loop-i : goal.invariant-loop-i
invariant-loop-i l = record {
  size : length l.sums.items ≡ length l.initial.sums.items;
  added : (j : ℕ) → j < l.i
      → HasAdded (numbered l.initial.sums.items j) (numbered l.sums.items j) (numbered l.column.entries j) l.p;
  left : (j : ℕ) → l.i ≤ j → numbered l.sums.items j ≡ numbered l.initial.sums.items j;
}
