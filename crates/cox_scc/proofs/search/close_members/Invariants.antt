-- The members so far are closed.
use Rattle.std.proofs.Common.{take}
use Rattle.cox_scc.specs.Walk.{CloseMembers}
use Rattle.cox_scc.proofs.search.close_members.Given as goal

abbrev pub invariant-loop-member : goal.invariant-loop-member
invariant-loop-member l =
    CloseMembers (take l.member-index l.members) l.least l.initial.places.items l.places.items l.initial.classes.items l.classes.items
