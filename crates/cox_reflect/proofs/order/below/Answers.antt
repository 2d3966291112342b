-- The normal form of w is a reduced word of the same element.
use Rattle.std.proofs.Common.{◌≡◌, ◌∙◌}
use Rattle.cox_base.specs.IntegerMatrix.{integer_matrix}
use Rattle.cox_base.specs.ShortLex.{normal_form}
use Rattle.cox_reflect.proofs.Admissible.{IsAdmissible-integer_matrix}
use Rattle.cox_reflect.proofs.Bruhat.{below-form}
use Rattle.cox_reflect.proofs.Lengths.{IsReduced-normal_form}
use Rattle.cox_reflect.proofs.HeightsUnderLetters.{AreOfShortElement-word}
use Rattle.std.proofs.lemmas.Bool.{false≢true}
use Rattle.cox_reflect.proofs.order.below.Goals as goal

pub is_below-requires-clause-reduced : goal.is_below-requires-clause-reduced
is_below-requires-clause-reduced c =
    let g = IsAdmissible-integer_matrix c.args.g.now c.rank-rank.ensures.matrix
    in rw (c.as_slice.ensures.value, c.normal_form-form.ensures.form)
    (IsReduced-normal_form (integer_matrix c.args.g.now) g c.args.w.now.items)

pub unreachable-requires : goal.unreachable-requires
unreachable-requires c =
    false≢true (c.in-None.ensures.sure (AreOfShortElement-word (integer_matrix c.args.g.now)
    (IsAdmissible-integer_matrix c.args.g.now c.rank-rank.ensures.matrix) _ c.args.y.now.items c.heights_at.result.values c.requires.short_y
    c.heights_at.ensures))

pub returns : goal.returns
returns c =
    let form : c.as_slice.result.now ≡ normal_form (integer_matrix c.args.g.now) c.args.w.now.items
    = c.as_slice.ensures.value ∙ c.normal_form-form.ensures.form
    in let same = below-form (integer_matrix c.args.g.now) (IsAdmissible-integer_matrix c.args.g.now c.rank-rank.ensures.matrix)
    c.args.y.now.items c.args.w.now.items c.as_slice.result.now form
    in let tells = c.in-Some.ensures.below c.args.y.now.items c.heights_at.ensures
    in (λ t. same.0 (tells.0 t), λ b. tells.1 (same.1 b))
