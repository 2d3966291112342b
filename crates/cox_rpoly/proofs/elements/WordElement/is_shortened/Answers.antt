-- The letter is in the list of descents exactly where it is one.
use Rattle.std.proofs.Common.{arith}
use Rattle.cox_base.specs.Admissible.{IsAdmissible}
use Rattle.cox_base.specs.IntegerMatrix.{IntegerMatrix, integer_matrix}
use Rattle.cox_reflect.proofs.Admissible.{IsAdmissible-integer_matrix}
use Rattle.cox_rpoly.proofs.FormElements.{found-descent, form-word, form-length, form-descents}
use Rattle.cox_rpoly.proofs.elements.WordElement.is_shortened.Goals as goal

pub left_descents-requires-clause-letters : goal.left_descents-requires-clause-letters
left_descents-requires-clause-letters g c =
    let A : IntegerMatrix = integer_matrix (g.W.Words.matrix c.args.words.now)
    in let p : IsAdmissible A = IsAdmissible-integer_matrix (g.W.Words.matrix c.args.words.now)
    (rw c.matrix.ensures at c.rank-rank.ensures.matrix)
    in form-word A p c.requires.short.word c.args.self.now c.requires.short.of_word

pub left_descents-requires-clause-short : goal.left_descents-requires-clause-short
left_descents-requires-clause-short g c =
    let A : IntegerMatrix = integer_matrix (g.W.Words.matrix c.args.words.now)
    in let p : IsAdmissible A = IsAdmissible-integer_matrix (g.W.Words.matrix c.args.words.now)
    (rw c.matrix.ensures at c.rank-rank.ensures.matrix)
    in omega (arith, form-length A p c.requires.short.word c.args.self.now c.requires.short.of_word, c.requires.short.short)

pub returns : goal.returns
returns g c =
    let A : IntegerMatrix = integer_matrix (g.W.Words.matrix c.args.words.now)
    in let p : IsAdmissible A = IsAdmissible-integer_matrix (g.W.Words.matrix c.args.words.now)
    (rw c.matrix.ensures at c.rank-rank.ensures.matrix)
    in λ u e.
    let found = found-descent A p c.args.self.now.items c.args.s c.contains.result c.requires.letter
    (rw (c.as_slice.ensures.value, c.left_descents.ensures) at c.contains.ensures.value)
    in let same = form-descents A p u c.args.self.now e c.args.s
    in (λ h. same.0 (found.0 h), λ d. found.1 (same.1 d))
