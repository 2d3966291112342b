-- What the loop of `put_operators` keeps.
use Rattle.std.proofs.Common.{◌≡◌, ◌++◌, take}
use Rattle.std.specs.List.{flat_map}
use Rattle.cox_base.specs.ShortLex.{letters}
use Rattle.cox_module.specs.NumberedImages.{cell_words, image_in}
use Rattle.cox_replies.specs.ModuleReply.{operator_text}
use Rattle.cox_replies.proofs.modules.put_operators.Given as goal

abbrev pub invariant-loop-r : goal.invariant-loop-r
invariant-loop-r l =
    let rank = l.context.matrix.rank in
    let words = cell_words l.context.members l.cell in
    l.out.items ≡ l.initial.out.items ++ flat_map (operator_text rank words (image_in l.action)) (take l.r (letters rank))
