-- The proof of `missing_letter`.
use Rattle.std.proofs.Common.{◌≡◌, ◌<◌, ◌≤◌, ℕ, List, true, ⊎_elim, sym, ◌∙◌, arith, rules}
use Rattle.std.specs.Prelude.{nat_eq}
use Rattle.std.specs.List.{list_any}
use Rattle.std.proofs.lemmas.Bool.{cases_lt}
use Rattle.cox_base.specs.IntegerMatrix.{integer_matrix}
use Rattle.cox_base.specs.Descents.{right_descents}
use Rattle.cox_replies.proofs.ListSearch.{any-found}
use Rattle.cox_answers.proofs.finite.missing_letter.Goals as goal

pub loop-s-preserved : goal.loop-s-preserved
loop-s-preserved c = λ q is below.
    let s = c.loop-s.s in
    let found : List ℕ = right_descents (integer_matrix c.args.table.now) c.args.word.now.items in
    let yes : c.contains.result ≡ true = search rules in
    let some : list_any (λ y. nat_eq y s) found ≡ true =
    rw (sym c.right_descents-descents.ensures.descents, sym c.as_slice.ensures.value) (sym c.contains.ensures.value ∙ yes) in
    ⊎_elim (λ (less : q < s). c.loop-s.invariant q is less)
    (λ (more : s ≤ q). let same : q ≡ s = omega (arith, below, more) in rw same (any-found found s some))
    (cases_lt q s)
