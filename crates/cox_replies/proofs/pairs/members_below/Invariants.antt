-- What the loop of `members_below` keeps.
use Rattle.cox_base.specs.IntegerMatrix.{integer_matrix}
use Rattle.cox_context.specs.Numbers.{word_at}
use Rattle.cox_context.proofs.IntervalLists.{is_below}
use Rattle.cox_replies.proofs.MemberLists.{IsKept}
use Rattle.cox_replies.proofs.pairs.members_below.Given as goal

abbrev pub invariant-loop-x : goal.invariant-loop-x
invariant-loop-x l =
    IsKept (λ x. is_below (integer_matrix l.rows.elements.matrix) x (word_at l.rows.elements.members l.i)) l.rows.elements.members l.x
    l.below.items
