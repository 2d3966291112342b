-- The text so far, and what is left to be put; the capacity has not shrunk.
use Rattle.std.proofs.Common.{◌≤◌, drop, vec_capacity}
use Rattle.cox_poly.specs.PolynomialText.{polynomial_text}
use Rattle.cox_poly.proofs.Terms.{Written, rest_text, terms_from}
use Rattle.cox_poly.proofs.polynomial_text.put_polynomial.Given as goal

abbrev pub invariant-loop-k : goal.invariant-loop-k
invariant-loop-k l = record {
  written : Written l.initial.out.items l.out.items (polynomial_text l.coefficients)
      (rest_text l.first (terms_from l.k (drop l.k l.coefficients)));
  capacity : vec_capacity l.initial.out ≤ vec_capacity l.out;
}
