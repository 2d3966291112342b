-- The sums so far are within the limit, and the last one that is not 0 is known.
use Rattle.cox_poly.proofs.Measured.{TrimmedWithin}
use Rattle.cox_poly.proofs.accumulator.measure.Given as goal

abbrev pub invariant-loop-k : goal.invariant-loop-k
invariant-loop-k l = TrimmedWithin l.limit l.sums l.k l.len
