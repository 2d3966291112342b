-- What the loop of `put_members` keeps.
use Rattle.std.proofs.Common.{◌≡◌, ◌++◌, take}
use Rattle.std.specs.List.{flat_map}
use Rattle.cox_replies.proofs.MemberTexts.{member_line}
use Rattle.cox_replies.proofs.intervals.put_members.Given as goal

abbrev pub invariant-loop-i : goal.invariant-loop-i
invariant-loop-i l =
    l.out.items ≡ l.initial.out.items ++ flat_map (member_line l.context.matrix.rank l.context.members) (take l.i-index l.numbers)
