-- R is 0 unless y is below w.
use Rattle.std.proofs.Common.{sym}
use Rattle.std.proofs.lemmas.Bool.{false≢true}
use Rattle.cox_base.specs.Admissible.{IsAdmissible}
use Rattle.cox_base.specs.IntegerMatrix.{IntegerMatrix, integer_matrix}
use Rattle.cox_reflect.proofs.Admissible.{IsAdmissible-integer_matrix}
use Rattle.cox_rpoly.proofs.PolynomialsOfElements.{r_polynomial-not_below}
use Rattle.cox_rpoly.proofs.polynomial.r.Goals as goal

pub returns-then-not-below-clause-value : goal.returns-then-not-below-clause-value
returns-then-not-below-clause-value g c =
    let A : IntegerMatrix = integer_matrix (g.W.Words.matrix c.args.words.now)
    in let p : IsAdmissible A = IsAdmissible-integer_matrix (g.W.Words.matrix c.args.words.now)
    (rw c.matrix.ensures at c.rank-rank.ensures.matrix)
    in λ k.
    rw c.in_ok-zero.ensures.zero
    (sym (r_polynomial-not_below A p c.args.y.now.items c.args.w.now.items (λ b. false≢true (c.if-not-below.ensures.1 b)) k))

pub r_below-requires-clause-admissible : goal.r_below-requires-clause-admissible
r_below-requires-clause-admissible g c =
    IsAdmissible-integer_matrix (g.W.Words.matrix c.args.words.now) (rw c.matrix.ensures at c.rank-rank.ensures.matrix)
