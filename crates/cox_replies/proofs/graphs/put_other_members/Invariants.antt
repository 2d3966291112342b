-- What the loop of `put_other_members` keeps.
use Rattle.std.proofs.Common.{◌≡◌, ◌++◌, take}
use Rattle.std.specs.List.{flat_map}
use Rattle.cox_replies.proofs.GroupTexts.{other_text}
use Rattle.cox_replies.proofs.graphs.put_other_members.Given as goal

abbrev pub invariant-loop-i : goal.invariant-loop-i
invariant-loop-i l =
    l.out.items ≡ l.initial.out.items ++ flat_map (other_text l.context.matrix.rank l.context.members) (take l.i-index l.others)
