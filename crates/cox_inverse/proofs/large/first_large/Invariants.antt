-- None of the rows so far has a large coefficient.
use Rattle.cox_inverse.proofs.FirstPairs.{AreSmallRows}
use Rattle.cox_inverse.proofs.large.first_large.Given as goal

abbrev pub invariant-loop-k : goal.invariant-loop-k
invariant-loop-k g l = AreSmallRows l.ctx l.interval.bottom l.interval.top l.interval.members.items l.k
