-- What is said of the fault is said of the lengths.
use Rattle.std.proofs.Common.{◌≡◌, ◌-◌, ap, ◌∙◌, refl, arith}
use Rattle.cox_base.specs.Matrix.{IsWord}
use Rattle.cox_base.specs.IntegerMatrix.{IntegerMatrix, integer_matrix}
use Rattle.cox_poly.specs.Coefficients.{Coefficients}
use Rattle.cox_reflect.proofs.Bruhat.{below-form}
use Rattle.cox_reflect.proofs.Lengths.{IsReduced-normal_form}
use Rattle.cox_reflect.proofs.Search.{length-normal_form, IsWord-normal_form}
use Rattle.cox_rpoly.specs.Recursion.{r_along}
use Rattle.cox_rpoly.proofs.LengthDifference.{lengths-rise, IsDeep-difference, difference-is, not_deep, near}
use Rattle.cox_rpoly.proofs.PolynomialsOfElements.{r_polynomial-form}
use Rattle.cox_rpoly.proofs.polynomial.r_below.Goals as goal

pub overflow_sub-difference : goal.overflow_sub-difference
overflow_sub-difference g c =
    let A : IntegerMatrix = integer_matrix (g.W.Words.matrix c.args.words.now)
    in lengths-rise A c.requires.admissible c.normal_form.ensures c.normal_form-form.ensures c.len-2.ensures.value c.len.ensures.value
    c.requires.below

pub returns-then-difference-gt-MAX_DIFFERENCE-clause-deep : goal.returns-then-difference-gt-MAX_DIFFERENCE-clause-deep
returns-then-difference-gt-MAX_DIFFERENCE-clause-deep g c =
    let A : IntegerMatrix = integer_matrix (g.W.Words.matrix c.args.words.now)
    in λ d. (
      λ e. let same : c.len.result - c.len-2.result ≡ d = cc in IsDeep-difference A c.requires.admissible
          c.normal_form.ensures c.normal_form-form.ensures c.len-2.ensures.value c.len.ensures.value c.requires.below d same (omega arith),
      λ deep. rw (difference-is A c.requires.admissible c.normal_form.ensures c.normal_form-form.ensures c.len-2.ensures.value
          c.len.ensures.value c.requires.below d deep) refl,
    )

pub along_any-requires-clause-letters : goal.along_any-requires-clause-letters
along_any-requires-clause-letters g c =
    let A : IntegerMatrix = integer_matrix (g.W.Words.matrix c.args.words.now)
    in let word : IsWord (g.W.Words.matrix c.args.words.now).rank c.as_slice.result.now
    = rw (c.as_slice.ensures.value, c.normal_form-form.ensures) (IsWord-normal_form A c.requires.admissible c.args.w.now.items)
    in word

pub along_any-requires-clause-short : goal.along_any-requires-clause-short
along_any-requires-clause-short g c =
    let A : IntegerMatrix = integer_matrix (g.W.Words.matrix c.args.words.now)
    in rw (c.as_slice.ensures.value, c.normal_form-form.ensures)
    (omega (arith, length-normal_form A c.requires.admissible c.args.w.now.items, c.requires.short_w))

pub along_any-requires-clause-reduced : goal.along_any-requires-clause-reduced
along_any-requires-clause-reduced g c =
    let A : IntegerMatrix = integer_matrix (g.W.Words.matrix c.args.words.now)
    in rw (c.as_slice.ensures.value, c.normal_form-form.ensures) (IsReduced-normal_form A c.requires.admissible c.args.w.now.items)

pub along_any-requires-clause-below : goal.along_any-requires-clause-below
along_any-requires-clause-below g c =
    let A : IntegerMatrix = integer_matrix (g.W.Words.matrix c.args.words.now)
    in (below-form A c.requires.admissible c.args.y.now.items c.args.w.now.items c.as_slice.result.now
    (c.as_slice.ensures.value ∙ c.normal_form-form.ensures)).1
    c.requires.below

pub along_any-requires-clause-near : goal.along_any-requires-clause-near
along_any-requires-clause-near g c =
    let A : IntegerMatrix = integer_matrix (g.W.Words.matrix c.args.words.now)
    in let h = near A c.requires.admissible c.normal_form.ensures c.normal_form-form.ensures c.len-2.ensures.value c.len.ensures.value
    c.requires.below (omega arith)
    in rw (c.as_slice.ensures.value) h

pub returns-in-Err-clause-deep : goal.returns-in-Err-clause-deep
returns-in-Err-clause-deep g c =
    let A : IntegerMatrix = integer_matrix (g.W.Words.matrix c.args.words.now)
    in λ d. (
      λ e. absurd (cc),
      λ deep. absurd (not_deep A c.requires.admissible c.normal_form.ensures c.normal_form-form.ensures c.len-2.ensures.value
          c.len.ensures.value c.requires.below (omega arith) d deep),
    )

pub returns-in-Ok-clause-value : goal.returns-in-Ok-clause-value
returns-in-Ok-clause-value g c =
    let A : IntegerMatrix = integer_matrix (g.W.Words.matrix c.args.words.now)
    in λ k.
    ◌∙◌ {b = r_along A c.args.y.now.items c.as_slice.result.now k} (c.in-Ok.ensures.value k) (ap (λ (f : Coefficients). f k)
    (r_polynomial-form A c.requires.admissible c.args.y.now.items c.args.w.now.items c.as_slice.result.now
    (c.as_slice.ensures.value ∙ c.normal_form-form.ensures)))

pub returns-in-Ok-clause-deep : goal.returns-in-Ok-clause-deep
returns-in-Ok-clause-deep g c =
    let A : IntegerMatrix = integer_matrix (g.W.Words.matrix c.args.words.now)
    in λ d. (
      λ e. absurd (cc),
      λ deep. absurd (not_deep A c.requires.admissible c.normal_form.ensures c.normal_form-form.ensures c.len-2.ensures.value
          c.len.ensures.value c.requires.below (omega arith) d deep),
    )
