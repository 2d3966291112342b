-- The sums so far are 0.
use Rattle.std.proofs.Common.{◌≡◌, ℕ, ◌<◌, length, pos}
use Rattle.cox_poly.specs.Polynomial.{coefficient}
use Rattle.cox_poly.proofs.accumulator.erase.Given as goal

abbrev pub invariant-loop-sum : goal.invariant-loop-sum
invariant-loop-sum l = record {
  size : length l.sums ≡ length l.initial.sums;
  none : (j : ℕ) → j < l.sum-index → coefficient l.sums j ≡ pos 0;
}
