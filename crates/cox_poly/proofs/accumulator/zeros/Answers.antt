-- Each of so many zeros is 0.
use Rattle.cox_poly.proofs.Polynomials.{coefficient-zeros}
use Rattle.cox_poly.specs.declared.accumulator.TheConstants.{DEGREES}
use Rattle.cox_poly.proofs.accumulator.zeros.Goals as goal

pub returns : goal.returns
returns c = coefficient-zeros DEGREES
