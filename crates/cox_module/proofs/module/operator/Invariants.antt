-- The images so far.
use Rattle.cox_base.specs.IntegerMatrix.{integer_matrix}
use Rattle.cox_module.specs.NumberedImages.{AreImagesUnder, cell_words, images_of}
use Rattle.cox_module.proofs.module.operator.Given as goal

abbrev pub invariant-loop-k : goal.invariant-loop-k
invariant-loop-k l = AreImagesUnder (integer_matrix l.graph.matrix) (cell_words l.graph.members l.cell) l.s l.k (images_of l.images.items)
