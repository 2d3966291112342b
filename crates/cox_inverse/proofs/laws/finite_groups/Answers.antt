-- R by induction on w; rows turned round.
use Rattle.std.proofs.Common.{ap}
use Rattle.cox_poly.specs.Coefficients.{Coefficients}
use Rattle.cox_inverse.proofs.TurnedAround.{turned-r}
use Rattle.cox_inverse.proofs.InversionByLongest.{inversion-longest}
use Rattle.cox_inverse.proofs.laws.finite_groups.Goals as goal

pub returns-clause-r_polynomials : goal.returns-clause-r_polynomials
returns-clause-r_polynomials c = λ A g longest is x w k. ap (λ (f : Coefficients). f k) (turned-r A g longest is x w)

pub returns-clause-inversion : goal.returns-clause-inversion
returns-clause-inversion c = inversion-longest
