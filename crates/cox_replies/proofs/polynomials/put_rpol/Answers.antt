-- The proof of `put_rpol`.
use Rattle.std.proofs.Common.{◌≡◌, ℕ, ◌-◌, Err, ap, refl, ◌∙◌}
use Rattle.cox_base.specs.IntegerMatrix.{integer_matrix}
use Rattle.cox_base.specs.Length.{word_length}
use Rattle.cox_reflect.proofs.Admissible.{IsAdmissible-integer_matrix}
use Rattle.cox_rpoly.specs.Depth.{IsDeep}
use Rattle.cox_rpoly.specs.declared.r_fault.RFault.TheVariants.{Deep, NoMemory}
use Rattle.cox_replies.proofs.PolynomialTexts.{is-r_text}
use Rattle.cox_replies.proofs.Unless.{far-refused, far-deep, far-allowed, PutsUnless-put}
use Rattle.cox_replies.proofs.polynomials.put_rpol.Goals as goal

pub returns-in-Err-Deep-clause-puts : goal.returns-in-Err-Deep-clause-puts
returns-in-Err-Deep-clause-puts c =
    let d = c.in-Err-Deep.field-0-0 in
    let deep = (c.r.ensures.deep d).0 (c.in-Err-Deep.is ∙ ap Err c.in-Err-Deep.field-0-is) in
    (far-refused (integer_matrix c.args.table.now) c.args.y.now.items c.args.w.now.items d deep, refl)

pub returns-in-Ok-clause-puts : goal.returns-in-Ok-clause-puts
returns-in-Ok-clause-puts c =
    let A = integer_matrix c.args.table.now in
    let near : (d : ℕ) → IsDeep A c.args.y.now.items c.args.w.now.items d → ⊥ =
    λ d deep. let bad : c.r.result ≡ Err (Deep d) = (c.r.ensures.deep d).1 deep in let good = c.in-Ok.is in cc in
    let value = c.in-Ok.ensures {u = tt} in
    let g = IsAdmissible-integer_matrix c.args.table.now (rw c.group.ensures at c.rank-rank.ensures.matrix) in
    let text = is-r_text A g c.args.y.now.items c.args.w.now.items _ value.value in
    rw c.unrefused.ensures
    (PutsUnless-put _ _ _ _ _ (far-allowed A c.args.y.now.items c.args.w.now.items near) (_, text, c.put_text.ensures.text))

-- ---- elements that are far apart

pub returns-in-Ok-clause-far : goal.returns-in-Ok-clause-far
returns-in-Ok-clause-far c = λ apart.
    let A = integer_matrix c.args.table.now in
    let y = c.args.y.now.items in
    let w = c.args.w.now.items in
    let d = word_length A w - word_length A y in
    let bad : c.r.result ≡ Err (Deep d) = (c.r.ensures.deep d).1 (far-deep A y w apart) in
    let good = c.in-Ok.is in absurd (cc)

pub returns-in-Err-NoMemory-clause-far : goal.returns-in-Err-NoMemory-clause-far
returns-in-Err-NoMemory-clause-far c = λ apart.
    let A = integer_matrix c.args.table.now in
    let y = c.args.y.now.items in
    let w = c.args.w.now.items in
    let d = word_length A w - word_length A y in
    let bad : c.r.result ≡ Err (Deep d) = (c.r.ensures.deep d).1 (far-deep A y w apart) in
    let other : c.r.result ≡ Err NoMemory = c.in-Err-NoMemory.is ∙ ap Err c.in-Err-NoMemory.field-0-is in absurd (cc)
