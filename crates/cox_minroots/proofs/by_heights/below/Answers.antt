-- The normal form of w is a reduced word of the same element.
use Rattle.std.proofs.Common.{◌≡◌, ◌∙◌}
use Rattle.std.proofs.lemmas.Option.{IfSome_then}
use Rattle.cox_base.specs.Matrix.{IsWord}
use Rattle.cox_base.specs.IntegerMatrix.{integer_matrix}
use Rattle.cox_base.specs.ShortLex.{normal_form}
use Rattle.cox_reflect.proofs.Admissible.{IsAdmissible-integer_matrix}
use Rattle.cox_reflect.proofs.Bruhat.{below-form}
use Rattle.cox_minroots.proofs.by_heights.below.Goals as goal

pub below_reduced-requires-clause-letters : goal.below_reduced-requires-clause-letters
below_reduced-requires-clause-letters c =
    let word : IsWord c.args.g.now.rank c.as_slice.result.now = rw c.as_slice.ensures.value c.in_ok-form.ensures.word in word

pub below_reduced-requires-clause-reduced : goal.below_reduced-requires-clause-reduced
below_reduced-requires-clause-reduced c = rw c.as_slice.ensures.value c.in_ok-form.ensures.reduced

pub returns : goal.returns
returns c =
    let form : c.as_slice.result.now ≡ normal_form (integer_matrix c.args.g.now) c.args.w.now.items
    = c.as_slice.ensures.value ∙ c.in_ok-form.ensures.form
    in let same = below-form (integer_matrix c.args.g.now) (IsAdmissible-integer_matrix c.args.g.now c.rank-rank.ensures.matrix)
    c.args.y.now.items c.args.w.now.items c.as_slice.result.now form
    in IfSome_then c.below_reduced.result c.below_reduced.ensures.below
    (λ answer tells. (
      λ t. same.0 ((tells c.args.y.now.items c.in_ok-of_word.ensures.heights).0 t),
      λ b. (tells c.args.y.now.items c.in_ok-of_word.ensures.heights).1 (same.1 b),
    ))
