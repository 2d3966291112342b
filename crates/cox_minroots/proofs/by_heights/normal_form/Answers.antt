-- What is read off the heights is the normal form of the word that they are the heights of.
use Rattle.std.proofs.Common.{◌≤◌, length, arith}
use Rattle.std.proofs.lemmas.Option.{IfSome_then}
use Rattle.cox_base.specs.Matrix.{IsWord}
use Rattle.cox_base.specs.declared.limits.TheConstants.{MAX_LETTERS}
use Rattle.cox_base.specs.IntegerMatrix.{integer_matrix}
use Rattle.cox_reflect.specs.Side.{word_on_side}
use Rattle.cox_reflect.proofs.Admissible.{IsAdmissible-integer_matrix}
use Rattle.cox_reflect.proofs.HeightsUnderLetters.{AreOfShortElement-word}
use Rattle.cox_reflect.proofs.Lengths.{IsReduced-normal_form}
use Rattle.cox_reflect.proofs.Search.{length-normal_form, IsWord-normal_form}
use Rattle.cox_minroots.proofs.Sides.{length-word_on_side}
use Rattle.cox_minroots.proofs.by_heights.normal_form.Goals as goal

pub normal_form-requires : goal.normal_form-requires
normal_form-requires c =
    let short : length (word_on_side c.args.side c.args.w.now.items) ≤ MAX_LETTERS
    = omega (arith, length-word_on_side c.args.side c.args.w.now.items, c.len.ensures.value)
    in record {
      short = AreOfShortElement-word (integer_matrix c.args.g.now) (IsAdmissible-integer_matrix c.args.g.now c.rank-rank.ensures.matrix)
          MAX_LETTERS (word_on_side c.args.side c.args.w.now.items) c.in_ok-heights_at.field-0.values short c.in_ok-heights_at.ensures;
    }

pub returns-clause-form : goal.returns-clause-form
returns-clause-form c =
    IfSome_then c.normal_form.result c.normal_form.ensures.form (λ form is. is (word_on_side c.args.side c.args.w.now.items)
    c.in_ok-heights_at.ensures)

pub returns-clause-reduced : goal.returns-clause-reduced
returns-clause-reduced c =
    IfSome_then c.normal_form.result c.normal_form.ensures.form
    (λ form is. rw (is (word_on_side c.args.side c.args.w.now.items) c.in_ok-heights_at.ensures)
    (IsReduced-normal_form (integer_matrix c.args.g.now) (IsAdmissible-integer_matrix c.args.g.now c.rank-rank.ensures.matrix)
    (word_on_side c.args.side c.args.w.now.items)))

pub returns-clause-word : goal.returns-clause-word
returns-clause-word c =
    IfSome_then c.normal_form.result c.normal_form.ensures.form
    (λ form is. let word : IsWord c.args.g.now.rank form.items
    = rw (is (word_on_side c.args.side c.args.w.now.items) c.in_ok-heights_at.ensures)
    (IsWord-normal_form (integer_matrix c.args.g.now) (IsAdmissible-integer_matrix c.args.g.now c.rank-rank.ensures.matrix)
    (word_on_side c.args.side c.args.w.now.items)) in word)

pub returns-clause-no_longer : goal.returns-clause-no_longer
returns-clause-no_longer c =
    IfSome_then c.normal_form.result c.normal_form.ensures.form
    (λ form is. rw (is (word_on_side c.args.side c.args.w.now.items) c.in_ok-heights_at.ensures)
    (omega (
      arith,
      length-word_on_side c.args.side c.args.w.now.items,
      length-normal_form (integer_matrix c.args.g.now) (IsAdmissible-integer_matrix c.args.g.now c.rank-rank.ensures.matrix)
          (word_on_side c.args.side c.args.w.now.items),
    )))
