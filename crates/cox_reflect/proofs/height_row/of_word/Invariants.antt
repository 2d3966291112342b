-- They are the heights of the letters that were read, the last of the word first.
use Rattle.std.proofs.Common.{reverse, map}
use Rattle.cox_base.specs.IntegerMatrix.{integer_matrix}
use Rattle.cox_reflect.specs.Height.{AreHeights}
use Rattle.cox_reflect.proofs.height_row.of_word.Given as goal

abbrev pub invariant-loop-s : goal.invariant-loop-s
invariant-loop-s g l = AreHeights (integer_matrix l.g) (reverse (map (λ x. x.now) l.yielded)) (g.H.HeightRow.values l.heights)
