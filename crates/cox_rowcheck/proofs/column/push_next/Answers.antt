-- Whether t shortens x is read off the number of x t.
use Rattle.std.proofs.Common.{◌≡◌, List, ℤ, [], refl, ap, ◌∙◌, arith}
use Rattle.std.proofs.lemmas.Result.{on_ok_weaker}
use Rattle.cox_base.specs.IntegerMatrix.{IntegerMatrix, integer_matrix}
use Rattle.cox_poly.specs.Polynomial.{coefficient}
use Rattle.cox_context.specs.Numbers.{word_at}
use Rattle.cox_context.proofs.Shifting.{length-at}
use Rattle.cox_rowcheck.proofs.StoredEntries.{one_more}
use Rattle.cox_rowcheck.proofs.ColumnSteps.{r-leaves_room, entry-shorter, entry-longer, entry-outside}
use Rattle.cox_rowcheck.proofs.column.push_next.Goals as goal

pub push_combined-requires-clause-small_f : goal.push_combined-requires-clause-small_f
push_combined-requires-clause-small_f c =
    let A : IntegerMatrix = integer_matrix c.args.ctx.now.matrix
    in let g = c.len-len.ensures.admissible
    in let members = c.args.ctx.now.members
    in r-leaves_room A g (word_at members c.args.i) (word_at members c.args.at) c.at-here.result.now
    (omega (arith, length-at A g members c.len-len.ensures.closed c.args.at c.requires.at, c.requires.short))
    (λ k. ap (λ (p : List ℤ). coefficient p k) c.at-here.ensures ∙ c.requires.column.value c.args.i k c.requires.i)

pub push_combined-requires-clause-small_h : goal.push_combined-requires-clause-small_h
push_combined-requires-clause-small_h c =
    let A : IntegerMatrix = integer_matrix c.args.ctx.now.matrix
    in let g = c.len-len.ensures.admissible
    in let members = c.args.ctx.now.members
    in r-leaves_room A g (word_at members c.in-Some.j) (word_at members c.args.at) c.at-in-Some-2.result.now
    (omega (arith, length-at A g members c.len-len.ensures.closed c.args.at c.requires.at, c.requires.short))
    (λ k. ap (λ (p : List ℤ). coefficient p k) c.at-in-Some-2.ensures ∙ c.requires.column.value c.in-Some.j k c.in-Some.ensures.0)

pub push_combined-requires-in-None-clause-small_f : goal.push_combined-requires-in-None-clause-small_f
push_combined-requires-in-None-clause-small_f c =
    let A : IntegerMatrix = integer_matrix c.args.ctx.now.matrix
    in let g = c.len-len.ensures.admissible
    in let members = c.args.ctx.now.members
    in r-leaves_room A g (word_at members c.args.i) (word_at members c.args.at) c.at-here.result.now
    (omega (arith, length-at A g members c.len-len.ensures.closed c.args.at c.requires.at, c.requires.short))
    (λ k. ap (λ (p : List ℤ). coefficient p k) c.at-here.ensures ∙ c.requires.column.value c.args.i k c.requires.i)

pub push_combined-requires-in-None-clause-small_h : goal.push_combined-requires-in-None-clause-small_h
push_combined-requires-in-None-clause-small_h c = record { top = refl; small = λ k. omega arith }

pub returns-in-Some : goal.returns-in-Some
returns-in-Some c = on_ok_weaker c.push.result (λ (e : _ ≡ _). record {
  entry = c.at.result.now;
  list = e;
  value = λ k. ap (λ (p : List ℤ). coefficient p k) c.at.ensures
      ∙ entry-shorter (integer_matrix c.args.ctx.now.matrix) c.len-len.ensures.admissible c.args.ctx.now.members c.len-len.ensures.closed
      c.args.at c.args.t c.requires.letter c.requires.at c.requires.ascent c.args.column.now c.requires.column c.args.i c.requires.i
      c.in-Some.j c.in-Some.ensures.0 c.if-j-i.true c.in-Some.ensures.1 k;
}) c.push.ensures

pub returns-in-Some-2 : goal.returns-in-Some-2
returns-in-Some-2 c = on_ok_weaker c.push_combined.result (one_more _ _ _ _ (λ p made.
    entry-longer (integer_matrix c.args.ctx.now.matrix) c.len-len.ensures.admissible c.args.ctx.now.members c.len-len.ensures.closed
    c.args.at c.args.t c.requires.letter c.requires.at c.requires.ascent c.args.column.now c.requires.column c.args.i c.requires.i
    c.in-Some.j c.in-Some.ensures.0 (λ d. omega (arith, d, c.if-j-i.false)) c.in-Some.ensures.1 p
    c.at-here.result.now c.at-in-Some-2.result.now (λ k. ap (λ (r : List ℤ). coefficient r k) c.at-here.ensures)
    (λ k. ap (λ (r : List ℤ). coefficient r k) c.at-in-Some-2.ensures) made)) c.push_combined.ensures

pub returns-in-None : goal.returns-in-None
returns-in-None c = on_ok_weaker c.push_combined-in-None.result (one_more _ _ _ _ (λ p made.
    entry-outside (integer_matrix c.args.ctx.now.matrix) c.len-len.ensures.admissible c.args.ctx.now.members c.len-len.ensures.closed
    c.args.at c.args.t c.requires.letter c.requires.at c.requires.ascent c.args.column.now c.requires.column c.args.i c.requires.i
    c.in-None.ensures p c.at-here.result.now [] (λ k. ap (λ (r : List ℤ). coefficient r k) c.at-here.ensures) (λ k. refl) made))
    c.push_combined-in-None.ensures
