-- The terms so far are read, and the rest is left.
use Rattle.std.proofs.Common.{length}
use Rattle.cox_polyread.proofs.ReadTerms.{IsRead}
use Rattle.cox_polyread.proofs.polynomial_reading.read_polynomial.Given as goal

abbrev pub invariant-loop-rest : goal.invariant-loop-rest
invariant-loop-rest l = IsRead l.most l.text l.rest l.first l.last l.fits l.coefficients.items

abbrev pub decreases-loop-rest : goal.decreases-loop-rest
decreases-loop-rest l = length l.rest
