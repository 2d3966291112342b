-- What the loop of `members_below_length` keeps.
use Rattle.std.proofs.Common.{◌+◌, ◌==◌, length}
use Rattle.cox_replies.proofs.MemberLists.{IsKept}
use Rattle.cox_replies.proofs.intervals.members_below_length.Given as goal

abbrev pub invariant-loop-i : goal.invariant-loop-i
invariant-loop-i l = IsKept (λ word. length word + 1 == l.letters) l.context.members l.i l.found.items
