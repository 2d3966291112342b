-- The recursion along the least left descent.
use Rattle.std.proofs.Common.{ap}
use Rattle.cox_poly.specs.Coefficients.{Coefficients}
use Rattle.cox_rpoly.proofs.PolynomialsOfElements.{r_polynomial-shorter, r_polynomial-longer, r_polynomial-moved}
use Rattle.cox_rpoly.proofs.laws.recursion.Goals as goal

pub returns-clause-shorter : goal.returns-clause-shorter
returns-clause-shorter c = λ A g x w s d e k. ap (λ (f : Coefficients). f k) (r_polynomial-shorter A g x w s d e)

pub returns-clause-longer : goal.returns-clause-longer
returns-clause-longer c = λ A g x w s d n k. ap (λ (f : Coefficients). f k) (r_polynomial-longer A g x w s d n)

pub returns-clause-moved : goal.returns-clause-moved
returns-clause-moved c = λ A g x w s d n k. ap (λ (f : Coefficients). f k) (r_polynomial-moved A g x w s d n)
