-- Each clause is a lemma on R by operators.
use Rattle.std.proofs.Common.{ap}
use Rattle.cox_poly.specs.Coefficients.{Coefficients}
use Rattle.cox_hecke.proofs.RPolynomials.{r-left_shorter, r-left_longer, r-left_moved, r-right_shorter, r-right_longer, r-right_moved}
use Rattle.cox_hecke.proofs.RPolynomials.{r-inverse}
use Rattle.cox_hecke.proofs.TurnedR.{r-turned}
use Rattle.cox_hecke.proofs.laws.r_polynomials.Goals as goal

pub returns-clause-left_shorter : goal.returns-clause-left_shorter
returns-clause-left_shorter c = λ A g x w s d e k. ap (λ (f : Coefficients). f k) (r-left_shorter A g x w s d e)

pub returns-clause-left_longer : goal.returns-clause-left_longer
returns-clause-left_longer c = λ A g x w s d n k. ap (λ (f : Coefficients). f k) (r-left_longer A g x w s d n)

pub returns-clause-left_moved : goal.returns-clause-left_moved
returns-clause-left_moved c = λ A g x w s d n k. ap (λ (f : Coefficients). f k) (r-left_moved A g x w s d n)

pub returns-clause-right_shorter : goal.returns-clause-right_shorter
returns-clause-right_shorter c = λ A g x w s d e k. ap (λ (f : Coefficients). f k) (r-right_shorter A g x w s d e)

pub returns-clause-right_longer : goal.returns-clause-right_longer
returns-clause-right_longer c = λ A g x w s d n k. ap (λ (f : Coefficients). f k) (r-right_longer A g x w s d n)

pub returns-clause-right_moved : goal.returns-clause-right_moved
returns-clause-right_moved c = λ A g x w s d n k. ap (λ (f : Coefficients). f k) (r-right_moved A g x w s d n)

pub returns-clause-inverse : goal.returns-clause-inverse
returns-clause-inverse c = λ A g x w k. ap (λ (f : Coefficients). f k) (r-inverse A g x w)

pub returns-clause-flipped : goal.returns-clause-flipped
returns-clause-flipped c = r-turned
