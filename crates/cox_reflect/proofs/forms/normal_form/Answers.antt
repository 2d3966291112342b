-- The heights are those of a short word, so no sum overflows.
use Rattle.std.proofs.Common.{arith}
use Rattle.std.proofs.lemmas.Bool.{false≢true}
use Rattle.cox_base.specs.Matrix.{IsWord}
use Rattle.cox_base.specs.declared.limits.TheConstants.{MAX_LETTERS}
use Rattle.cox_base.specs.IntegerMatrix.{integer_matrix}
use Rattle.cox_reflect.proofs.Admissible.{IsAdmissible-integer_matrix}
use Rattle.cox_reflect.proofs.HeightsUnderLetters.{AreOfShortElement-word}
use Rattle.cox_reflect.proofs.Search.{length-normal_form, IsWord-normal_form}
use Rattle.cox_reflect.proofs.forms.normal_form.Goals as goal

pub normal_form_of-requires : goal.normal_form_of-requires
normal_form_of-requires c = record {
  short = AreOfShortElement-word (integer_matrix c.args.g.now) (IsAdmissible-integer_matrix c.args.g.now c.rank-rank.ensures.matrix)
      MAX_LETTERS
      c.args.w.now.items c.heights_at.result.values (omega (arith, c.requires.short)) c.heights_at.ensures;
}

pub unreachable-requires : goal.unreachable-requires
unreachable-requires c =
    false≢true (c.in-None.ensures.sure (AreOfShortElement-word (integer_matrix c.args.g.now)
    (IsAdmissible-integer_matrix c.args.g.now c.rank-rank.ensures.matrix) _ c.args.w.now.items c.heights_at.result.values c.requires.short
    c.heights_at.ensures))

pub returns-clause-word : goal.returns-clause-word
returns-clause-word c =
    let p = IsAdmissible-integer_matrix c.args.g.now c.rank-rank.ensures.matrix
    in let word : IsWord c.args.g.now.rank c.in-Some.form.items
    = rw (c.in-Some.ensures.form c.args.w.now.items c.heights_at.ensures)
    (IsWord-normal_form (integer_matrix c.args.g.now) p c.args.w.now.items)
    in word

pub returns-clause-no_longer : goal.returns-clause-no_longer
returns-clause-no_longer c =
    let p = IsAdmissible-integer_matrix c.args.g.now c.rank-rank.ensures.matrix
    in rw (c.in-Some.ensures.form c.args.w.now.items c.heights_at.ensures)
    (length-normal_form (integer_matrix c.args.g.now) p c.args.w.now.items)
