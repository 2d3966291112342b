-- The members whose bits are in the words before the place at hand are listed.
use Rattle.std.proofs.Common.{◌+◌, ◌*◌, min}
use Rattle.cox_klstep.specs.DescentBits.{AreNumbersOf}
use Rattle.cox_klstep.proofs.extremal.list_members.Given as goal

abbrev pub invariant-loop-place : goal.invariant-loop-place
invariant-loop-place l = AreNumbersOf l.words (min (l.place * 64) (l.last + 1)) l.members.items
