-- The bounds of the coefficients and of the degree.
use Rattle.std.proofs.Common.{arith}
use Rattle.cox_rpoly.proofs.PolynomialsOfElements.{r_polynomial-norm, r_polynomial-degree}
use Rattle.cox_rpoly.proofs.laws.bounds.Goals as goal

pub returns-clause-norm : goal.returns-clause-norm
returns-clause-norm c = λ A g x w d b e. r_polynomial-norm A g x w d (omega (arith, e))

pub returns-clause-degree : goal.returns-clause-degree
returns-clause-degree c = λ A g x w d b e. r_polynomial-degree A g x w d (omega (arith, e))
