-- Two lists without trailing zeros and with the same coefficients are one.
use Rattle.cox_poly.proofs.Polynomials.{same_polynomial}
use Rattle.cox_poly.proofs.laws.known_by_coefficients.Goals as goal

pub returns : goal.returns
returns c = same_polynomial
