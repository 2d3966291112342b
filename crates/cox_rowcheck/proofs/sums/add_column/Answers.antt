-- An entry has no term of a higher degree, and behind the last one nothing is added.
use Rattle.std.proofs.Common.{◌<◌, ◌≤◌, List, [], ℤ, length, ap, ◌∙◌, arith, ⊎_elim}
use Rattle.std.proofs.lemmas.Bool.{cases_lt}
use Rattle.std.proofs.lemmas.List.{get_or_past}
use Rattle.cox_base.specs.IntegerMatrix.{IntegerMatrix, integer_matrix}
use Rattle.cox_poly.specs.Polynomial.{coefficient}
use Rattle.cox_rpoly.specs.declared.terms.TheConstants.{TERMS}
use Rattle.cox_rpoly.specs.Terms.{numbered}
use Rattle.cox_context.specs.Numbers.{word_at}
use Rattle.cox_context.proofs.Shifting.{length-at}
use Rattle.cox_rowcheck.proofs.ColumnSteps.{r-low, r-narrow}
use Rattle.cox_rowcheck.proofs.AddedProducts.{added-nothing}
use Rattle.cox_rowcheck.proofs.sums.add_column.Goals as goal

pub add_product-requires-clause-low : goal.add_product-requires-clause-low
add_product-requires-clause-low c = λ k l.
    let A : IntegerMatrix = integer_matrix c.args.ctx.now.matrix
    in let g = c.len-len.ensures.admissible
    in let closed = c.len-len.ensures.closed
    in let members = c.args.ctx.now.members
    in let entries = c.args.column.now.entries
    in let i = c.loop-i.i
    in let within : i < length entries = omega arith
    in let inside : i < length members = omega (arith, within, c.requires.column.size)
    in ap (λ (p : List ℤ). coefficient p k) c.at.ensures ∙ c.requires.column.value i k inside
    ∙ r-low A g (word_at members i) (word_at members c.args.column.now.number) TERMS
    (omega (arith, c.requires.short, length-at A g members closed c.args.column.now.number c.requires.number))
    k l

pub add_product-requires-clause-narrow : goal.add_product-requires-clause-narrow
add_product-requires-clause-narrow c =
    let A : IntegerMatrix = integer_matrix c.args.ctx.now.matrix
    in let g = c.len-len.ensures.admissible
    in let closed = c.len-len.ensures.closed
    in let members = c.args.ctx.now.members
    in let i = c.loop-i.i
    in let inside : i < length members = omega (arith, c.requires.column.size, c.len-i-end.ensures)
    in r-narrow A g (word_at members i) (word_at members c.args.column.now.number) c.at.result.now
    (omega (arith, c.requires.short, length-at A g members closed c.args.column.now.number c.requires.number))
    (λ k. ap (λ (p : List ℤ). coefficient p k) c.at.ensures ∙ c.requires.column.value i k inside)

pub returns-clause-sum : goal.returns-clause-sum
returns-clause-sum c = λ i l. ⊎_elim
    (λ (done : i < c.loop-i.i). c.loop-i.invariant.added i done)
    (λ (later : c.loop-i.i ≤ i). added-nothing (numbered c.args.sums.now.items i) (numbered c.loop-i.sums.items i)
    (numbered c.args.column.now.entries i) c.args.p.now (c.loop-i.invariant.left i later)
    (λ k. ap (λ (p : List ℤ). coefficient p k) (get_or_past c.args.column.now.entries i [] (omega (arith, later)))))
    (cases_lt i c.loop-i.i)
