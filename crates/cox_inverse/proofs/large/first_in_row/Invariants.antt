-- None of the members so far has a large coefficient.
use Rattle.cox_inverse.proofs.FirstPairs.{AreSmallTo}
use Rattle.cox_inverse.proofs.large.first_in_row.Given as goal

abbrev pub invariant-loop-j : goal.invariant-loop-j
invariant-loop-j l = AreSmallTo l.ctx l.interval.members.items l.z l.j
