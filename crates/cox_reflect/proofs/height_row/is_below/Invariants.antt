-- What is kept over the letters of the reduced word.
use Rattle.std.proofs.Common.{drop}
use Rattle.cox_base.specs.IntegerMatrix.{integer_matrix}
use Rattle.cox_reflect.proofs.OrderByLifting.{AreLifted}
use Rattle.cox_reflect.proofs.height_row.is_below.Given as goal

-- what is left of each element is below the rest exactly where the element is below the word
abbrev pub invariant-loop-s : goal.invariant-loop-s
invariant-loop-s g l =
    AreLifted (integer_matrix l.g) l.form (drop l.s-index l.form) (g.H.HeightRow.values l.initial.heights) (g.H.HeightRow.values l.heights)
