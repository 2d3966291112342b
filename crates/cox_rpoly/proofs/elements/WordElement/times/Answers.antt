-- An element as long as the word above it is that word's; any other leaves room for one letter more.
use Rattle.std.proofs.Common.{arith}
use Rattle.std.proofs.lemmas.List.Elements.{All-cons}
use Rattle.cox_base.specs.Matrix.{IsLetter, IsWord}
use Rattle.cox_base.specs.Admissible.{IsAdmissible}
use Rattle.cox_base.specs.IntegerMatrix.{IntegerMatrix, integer_matrix}
use Rattle.cox_reflect.proofs.Admissible.{IsAdmissible-integer_matrix}
use Rattle.cox_rpoly.proofs.FormElements.{form-word, form-times, form-top}
use Rattle.cox_rpoly.proofs.elements.WordElement.times.Goals as goal

pub returns-then-rest-len-clause-times : goal.returns-then-rest-len-clause-times
returns-then-rest-len-clause-times g c =
    let A : IntegerMatrix = integer_matrix (g.W.Words.matrix c.args.words.now)
    in let p : IsAdmissible A = IsAdmissible-integer_matrix (g.W.Words.matrix c.args.words.now)
    (rw c.matrix.ensures at c.rank-rank.ensures.matrix)
    in λ u e.
    form-top A p c.args.s c.args.rest.now c.args.self.now c.normal_form.result.items c.requires.reduced c.requires.below
    (omega (arith, c.len.ensures.value)) (rw c.word_of.ensures at c.normal_form.ensures) u e

pub with_first-requires : goal.with_first-requires
with_first-requires g c =
    omega (arith, c.len.ensures.value, c.requires.short, c.longest-longest.ensures.value, c.longest-longest.ensures.limit)

pub normal_form-requires-2-clause-letters : goal.normal_form-requires-2-clause-letters
normal_form-requires-2-clause-letters g c =
    let A : IntegerMatrix = integer_matrix (g.W.Words.matrix c.args.words.now)
    in let p : IsAdmissible A = IsAdmissible-integer_matrix (g.W.Words.matrix c.args.words.now)
    (rw c.matrix.ensures at c.rank-rank.ensures.matrix)
    in let word : IsWord (g.W.Words.matrix c.args.words.now).rank c.with_first.result.items
    = rw c.with_first.ensures (All-cons (IsLetter (g.W.Words.matrix c.args.words.now).rank) c.args.s c.args.self.now.items c.requires.letter
    (form-word A p c.requires.below.word c.args.self.now c.requires.below.of_word))
    in word

pub returns-clause-times : goal.returns-clause-times
returns-clause-times g c =
    let A : IntegerMatrix = integer_matrix (g.W.Words.matrix c.args.words.now)
    in let p : IsAdmissible A = IsAdmissible-integer_matrix (g.W.Words.matrix c.args.words.now)
    (rw c.matrix.ensures at c.rank-rank.ensures.matrix)
    in λ u e.
    form-times A p u c.args.self.now e c.args.s c.normal_form-2.result.items (rw c.with_first.ensures at c.normal_form-2.ensures)
