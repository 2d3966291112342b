-- They are the heights of the reversed prefix that was read.
use Rattle.std.proofs.Common.{reverse, take}
use Rattle.cox_base.specs.IntegerMatrix.{integer_matrix}
use Rattle.cox_reflect.specs.Height.{AreHeights}
use Rattle.cox_reflect.proofs.height_row.of_reversed.Given as goal

abbrev pub invariant-loop-s : goal.invariant-loop-s
invariant-loop-s g l = AreHeights (integer_matrix l.g) (reverse (take l.s-index l.w)) (g.H.HeightRow.values l.heights)
