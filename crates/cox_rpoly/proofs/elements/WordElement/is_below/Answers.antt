-- The normal form names the element.
use Rattle.std.proofs.Common.{arith}
use Rattle.cox_base.specs.Admissible.{IsAdmissible}
use Rattle.cox_base.specs.IntegerMatrix.{IntegerMatrix, integer_matrix}
use Rattle.cox_reflect.proofs.Admissible.{IsAdmissible-integer_matrix}
use Rattle.cox_rpoly.proofs.FormElements.{form-word, form-length, form-below}
use Rattle.cox_rpoly.proofs.elements.WordElement.is_below.Goals as goal

pub word_of-requires : goal.word_of-requires
word_of-requires g c = omega (arith, c.requires.short_form, c.longest-longest.ensures.value, c.longest-longest.ensures.limit)

pub below-requires-clause-letters_y : goal.below-requires-clause-letters_y
below-requires-clause-letters_y g c =
    let A : IntegerMatrix = integer_matrix (g.W.Words.matrix c.args.words.now)
    in let p : IsAdmissible A = IsAdmissible-integer_matrix (g.W.Words.matrix c.args.words.now)
    (rw c.matrix.ensures at c.rank-rank.ensures.matrix)
    in form-word A p c.requires.short.word c.args.self.now c.requires.short.of_word

pub below-requires-clause-short_y : goal.below-requires-clause-short_y
below-requires-clause-short_y g c =
    let A : IntegerMatrix = integer_matrix (g.W.Words.matrix c.args.words.now)
    in let p : IsAdmissible A = IsAdmissible-integer_matrix (g.W.Words.matrix c.args.words.now)
    (rw c.matrix.ensures at c.rank-rank.ensures.matrix)
    in omega (arith, form-length A p c.requires.short.word c.args.self.now c.requires.short.of_word, c.requires.short.short)

pub returns-clause-below : goal.returns-clause-below
returns-clause-below g c =
    let A : IntegerMatrix = integer_matrix (g.W.Words.matrix c.args.words.now)
    in let p : IsAdmissible A = IsAdmissible-integer_matrix (g.W.Words.matrix c.args.words.now)
    (rw c.matrix.ensures at c.rank-rank.ensures.matrix)
    in λ u e.
    let tells = rw c.word_of.ensures at c.below.ensures
    in let same = form-below A p u c.args.self.now e c.args.form.now
    in (λ h. same.0 (tells.0 h), λ b. tells.1 (same.1 b))
