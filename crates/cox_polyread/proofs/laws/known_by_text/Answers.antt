-- The terms of a text are those of one polynomial.
use Rattle.std.proofs.Common.{sym, ◌∙◌}
use Rattle.cox_poly.proofs.Polynomials.{same_polynomial}
use Rattle.cox_polyread.proofs.JoinedTerms.{polynomial_text-one}
use Rattle.cox_polyread.proofs.laws.known_by_text.Goals as goal

pub returns : goal.returns
returns c = record {
  coefficients = polynomial_text-one;
  one = λ p r text p_is r_is. same_polynomial p r p_is.normal r_is.normal (polynomial_text-one p r (p_is.written ∙ sym r_is.written));
}
