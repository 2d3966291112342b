-- The members so far.
use Rattle.cox_inverse.proofs.BetweenLists.{AreFound}
use Rattle.cox_inverse.proofs.interval.Interval.between.Given as goal

abbrev pub invariant-loop-z : goal.invariant-loop-z
invariant-loop-z l = AreFound l.ctx l.y l.w l.z l.members.items
