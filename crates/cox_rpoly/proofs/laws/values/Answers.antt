-- R is 1 at equal elements, and 0 unless below.
use Rattle.std.proofs.Common.{ap}
use Rattle.cox_poly.specs.Coefficients.{Coefficients}
use Rattle.cox_reflect.proofs.Elements.{same-refl}
use Rattle.cox_rpoly.proofs.PolynomialsOfElements.{r_polynomial-equal, r_polynomial-not_below}
use Rattle.cox_rpoly.proofs.laws.values.Goals as goal

pub returns-clause-one : goal.returns-clause-one
returns-clause-one c = λ A g w k. ap (λ (f : Coefficients). f k) (r_polynomial-equal A g (same-refl A g w))

pub returns-clause-zero : goal.returns-clause-zero
returns-clause-zero c = λ A g x w no k. r_polynomial-not_below A g x w no k
