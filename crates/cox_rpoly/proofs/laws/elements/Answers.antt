-- R depends on the elements alone.
use Rattle.std.proofs.Common.{ap}
use Rattle.cox_poly.specs.Coefficients.{Coefficients}
use Rattle.cox_rpoly.proofs.PolynomialsOfElements.{r_polynomial-same}
use Rattle.cox_rpoly.proofs.laws.elements.Goals as goal

pub returns : goal.returns
returns c = λ A g x y v w e f k. ap (λ (h : Coefficients). h k) (r_polynomial-same A g e f)
