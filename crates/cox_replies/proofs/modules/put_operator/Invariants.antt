-- What the loop of `put_operator` keeps.
use Rattle.std.proofs.Common.{◌≡◌, ◌++◌, take, length}
use Rattle.std.specs.List.{flat_map, range_with_len}
use Rattle.cox_module.specs.NumberedImages.{cell_words, image_in}
use Rattle.cox_replies.proofs.ModuleTexts.{image_line}
use Rattle.cox_replies.proofs.modules.put_operator.Given as goal

abbrev pub invariant-loop-k : goal.invariant-loop-k
invariant-loop-k l =
    let words = cell_words l.context.members l.cell in
    l.out.items ≡ l.initial.out.items
    ++ flat_map (image_line l.context.matrix.rank words (image_in l.action) l.s) (take l.k (range_with_len 0 (length words)))
