-- The words before the place at hand are done, and the others are as they were.
use Rattle.std.proofs.Common.{◌≡◌, ℕ, ◌<◌, ◌≤◌, length, bit_and}
use Rattle.cox_row.specs.Rising.{number_at}
use Rattle.cox_klstep.proofs.extremal.keep_common.Given as goal

abbrev pub invariant-loop-k : goal.invariant-loop-k
invariant-loop-k l = record {
  size : length l.words ≡ length l.initial.words;
  done : (j : ℕ) → j < l.k → number_at l.words j ≡ bit_and (number_at l.initial.words j) (number_at l.others j);
  left : (j : ℕ) → l.k ≤ j → number_at l.words j ≡ number_at l.initial.words j;
}
