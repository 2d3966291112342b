-- The last of the coefficients so far that is not 0 is known.
use Rattle.cox_poly.proofs.Measured.{TrimmedSmall}
use Rattle.cox_poly.proofs.polynomial.trimmed_len.Given as goal

abbrev pub invariant-loop-k : goal.invariant-loop-k
invariant-loop-k l = TrimmedSmall l.list l.k l.len
