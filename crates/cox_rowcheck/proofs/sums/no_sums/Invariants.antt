-- The sums so far are 0.
use Rattle.cox_rowcheck.specs.MemberSums.{AreZeros}
use Rattle.cox_rowcheck.proofs.sums.no_sums.Given as goal

abbrev pub invariant-loop-i : goal.invariant-loop-i
invariant-loop-i l = AreZeros l._i l.sums.items
