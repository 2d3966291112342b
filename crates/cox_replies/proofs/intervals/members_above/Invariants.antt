-- What the loop of `members_above` keeps.
use Rattle.cox_base.specs.IntegerMatrix.{integer_matrix}
use Rattle.cox_context.proofs.IntervalLists.{is_below}
use Rattle.cox_replies.proofs.MemberLists.{IsKept}
use Rattle.cox_replies.proofs.intervals.members_above.Given as goal

abbrev pub invariant-loop-i : goal.invariant-loop-i
invariant-loop-i l = IsKept (is_below (integer_matrix l.context.matrix) l.y.items) l.context.members l.i l.above.items
