-- The proof of `put_certificate`.
use Rattle.std.proofs.Common.{inr, ⊎_elim, refl, sym, ◌∙◌, pos, arith}
use Rattle.std.specs.Prelude.{◌≤ℤ◌}
use Rattle.std.proofs.lemmas.Bool.{false≢true}
use Rattle.std.proofs.lemmas.Int.{ints}
use Rattle.cox_base.specs.IntegerMatrix.{integer_matrix}
use Rattle.cox_base.specs.Element.{SameElement}
use Rattle.cox_reflect.proofs.Admissible.{IsAdmissible-integer_matrix}
use Rattle.cox_reflect.proofs.Elements.{same-sym}
use Rattle.cox_reflect.proofs.Search.{normal_form-same}
use Rattle.cox_hecke.proofs.AllRows.{row_of, row_of-is}
use Rattle.cox_context.specs.Numbers.{word_at}
use Rattle.cox_certtext.specs.declared.limits.TheConstants.{MAX_CHECKED_COEFFICIENT}
use Rattle.cox_rows.specs.Beyond.{IsBeyond}
use Rattle.cox_rows.proofs.BeyondDecided.{beyond-same}
use Rattle.cox_replies.specs.Putting.{words_at}
use Rattle.cox_replies.proofs.CertRefusals.{cert-large, cert-allowed}
use Rattle.cox_replies.proofs.CertTexts.{cert-text}
use Rattle.cox_replies.proofs.Unless.{PutsUnless-put}
use Rattle.cox_replies.proofs.certificates.put_certificate.Goals as goal

pub returns-then-has_large : goal.returns-then-has_large
returns-then-has_large c = λ limits w is list free small.
    let e = c.args.rows.now.elements in
    let A = integer_matrix e.matrix in
    let g = IsAdmissible-integer_matrix e.matrix c.requires.group in
    let least : pos 0 ≤ℤ MAX_CHECKED_COEFFICIENT = omega (arith, ints) in
    let same : SameElement A (word_at e.members c.args.i) w = rw is (normal_form-same A g w) in
    let beyond = beyond-same A g MAX_CHECKED_COEFFICIENT least (word_at e.members c.args.i) w same
    (c.has_large.ensures.0 c.if-has_large.true) in
    (cert-large limits A w free (inr beyond), refl)

pub returns : goal.returns
returns c = λ limits w is list free small.
    let e = c.args.rows.now.elements in
    let A = integer_matrix e.matrix in
    let g = IsAdmissible-integer_matrix e.matrix c.requires.group in
    let least : pos 0 ≤ℤ MAX_CHECKED_COEFFICIENT = omega (arith, ints) in
    let same : SameElement A (word_at e.members c.args.i) w = rw is (normal_form-same A g w) in
    let none : IsBeyond A MAX_CHECKED_COEFFICIENT w → ⊥ = λ beyond. false≢true (sym c.if-has_large.false
    ∙ c.has_large.ensures.1 (beyond-same A g MAX_CHECKED_COEFFICIENT least w (word_at e.members c.args.i) (same-sym A g same) beyond)) in
    let p = row_of A g w in
    let row = row_of-is A g w in
    let words = words_at e.members c.args.below.now in
    rw c.unrefused.ensures (PutsUnless-put _ _ _ _ _ (cert-allowed limits A w free (λ large. ⊎_elim small none large))
    (_, cert-text e.matrix w p row words list, c.put_lines.ensures w p is row))
