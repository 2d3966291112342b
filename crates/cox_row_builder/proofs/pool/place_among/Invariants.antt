-- None of the polynomials from the place at hand to the end is the one that is looked for.
use Rattle.std.proofs.Common.{ℕ, ◌<◌, ◌≤◌}
use Rattle.cox_poly.specs.Polynomial.{SameCoefficients}
use Rattle.cox_row.specs.Polynomials.{polynomial_at}
use Rattle.cox_row_builder.proofs.pool.place_among.Given as goal

abbrev pub invariant-loop-k : goal.invariant-loop-k
invariant-loop-k l = record {
  from : l.start ≤ l.k;
  within : l.k ≤ l.end;
  none : (j : ℕ) → l.k ≤ j → j < l.end → SameCoefficients (polynomial_at l.polynomials j) l.sums → ⊥;
}

abbrev pub decreases-loop-k : goal.decreases-loop-k
decreases-loop-k l = l.k
