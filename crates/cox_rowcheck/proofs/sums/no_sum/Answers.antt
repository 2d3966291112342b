-- The coefficients of a list of zeros.
use Rattle.cox_poly.proofs.Polynomials.{coefficient-zeros}
use Rattle.cox_rowcheck.specs.declared.sums.TheConstants.{SUM_TERMS}
use Rattle.cox_rowcheck.proofs.sums.no_sum.Goals as goal

pub returns : goal.returns
returns c = λ k. coefficient-zeros SUM_TERMS k
