-- The terms at the places so far.
use Rattle.cox_base.specs.IntegerMatrix.{integer_matrix}
use Rattle.cox_context.specs.Numbers.{word_at}
use Rattle.cox_module.specs.Images.{AreTermsBefore}
use Rattle.cox_module.specs.NumberedImages.{cell_words}
use Rattle.cox_module.proofs.image.image_of.Given as goal

abbrev pub invariant-loop-p : goal.invariant-loop-p
invariant-loop-p l =
    let words = cell_words l.graph.members l.cell
    in AreTermsBefore (integer_matrix l.graph.matrix) words l.s (word_at words l.k) l.p l.image.items
