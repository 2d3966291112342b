-- The terms so far are taken off.
use Rattle.std.proofs.Common.{ℕ, ◌+◌, ◌*◌, ◌^◌, ◌≤◌}
use Rattle.std.specs.Prelude.{unsigned_abs}
use Rattle.cox_poly.specs.Polynomial.{coefficient}
use Rattle.cox_inverse.proofs.SignedProducts.{AreTakenOff}
use Rattle.cox_inverse.proofs.sums.take_off.Given as goal

abbrev pub invariant-loop-k : goal.invariant-loop-k
invariant-loop-k l = record {
  off : AreTakenOff l.p l.r l.initial.sums l.d l.k l.sums;
  size : (j : ℕ) → unsigned_abs (coefficient l.sums j) ≤ unsigned_abs (coefficient l.initial.sums j) + l.k * 2 ^ 94;
}
