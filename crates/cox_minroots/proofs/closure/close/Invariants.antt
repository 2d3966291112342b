-- The steps of the roots so far are in the set.
use Rattle.std.proofs.Common.{◌+◌, ◌-◌}
use Rattle.cox_base.specs.IntegerMatrix.{integer_matrix}
use Rattle.cox_minroots.proofs.ClosingLoop.{IsClosing}
use Rattle.cox_minroots.proofs.closure.close.Given as goal

abbrev pub invariant-loop-i : goal.invariant-loop-i
invariant-loop-i l = IsClosing (integer_matrix l.g) l.max l.roots l.i

abbrev pub decreases-loop-i : goal.decreases-loop-i
decreases-loop-i l = l.max + 1 - l.i
