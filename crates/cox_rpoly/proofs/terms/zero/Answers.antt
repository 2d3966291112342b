-- The list of zeros is the polynomial 0.
use Rattle.std.proofs.Common.{◌+◌}
use Rattle.cox_poly.proofs.Polynomials.{coefficient-zeros}
use Rattle.cox_rpoly.specs.declared.TheConstants.{MAX_DIFFERENCE}
use Rattle.cox_rpoly.proofs.terms.zero.Goals as goal

pub returns : goal.returns
returns c = λ k. coefficient-zeros (MAX_DIFFERENCE + 1) k
