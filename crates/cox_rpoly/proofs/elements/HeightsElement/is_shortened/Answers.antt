-- The heights tell descents.
use Rattle.cox_base.specs.Admissible.{IsAdmissible}
use Rattle.cox_base.specs.IntegerMatrix.{IntegerMatrix, integer_matrix}
use Rattle.cox_reflect.proofs.Admissible.{IsAdmissible-integer_matrix}
use Rattle.cox_rpoly.proofs.elements.HeightsElement.is_shortened.Goals as goal

pub returns : goal.returns
returns g c =
    let A : IntegerMatrix = integer_matrix (g.W.Words.matrix c.args.words.now)
    in let p : IsAdmissible A = IsAdmissible-integer_matrix (g.W.Words.matrix c.args.words.now)
    (rw c.matrix.ensures at c.rank-rank.ensures.matrix)
    in λ u e.
    c.is_descent.ensures A u
    p c.requires.letter e
