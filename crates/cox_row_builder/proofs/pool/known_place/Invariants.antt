-- None of the polynomials from the place at hand on is the one that is looked for.
use Rattle.std.proofs.Common.{ℕ, ◌<◌, ◌≤◌, length}
use Rattle.cox_poly.specs.Polynomial.{SameCoefficients}
use Rattle.cox_row.specs.Polynomials.{polynomial_at}
use Rattle.cox_row_builder.proofs.pool.known_place.Given as goal

abbrev pub invariant-loop-end : goal.invariant-loop-end
invariant-loop-end l = record {
  within : l.end ≤ length l.polynomials;
  none : (j : ℕ) → l.end ≤ j → j < length l.polynomials → SameCoefficients (polynomial_at l.polynomials j) l.sums → ⊥;
}

abbrev pub decreases-loop-end : goal.decreases-loop-end
decreases-loop-end l = l.end
