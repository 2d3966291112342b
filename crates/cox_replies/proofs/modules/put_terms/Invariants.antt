-- What the loop of `put_terms` keeps.
use Rattle.std.proofs.Common.{◌≡◌, ◌++◌, take}
use Rattle.std.specs.List.{flat_map}
use Rattle.cox_module.specs.NumberedImages.{cell_words}
use Rattle.cox_replies.specs.ModuleReply.{image_term_text}
use Rattle.cox_replies.proofs.modules.put_terms.Given as goal

abbrev pub invariant-loop-term : goal.invariant-loop-term
invariant-loop-term l =
    l.out.items ≡ l.initial.out.items
    ++ flat_map (image_term_text l.context.matrix.rank (cell_words l.context.members l.cell)) (take l.term-index l.image)
