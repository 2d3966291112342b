-- The proof of `put_between`.
use Rattle.std.proofs.Common.{filter, refl, rules}
use Rattle.cox_base.specs.IntegerMatrix.{integer_matrix}
use Rattle.cox_reflect.proofs.Admissible.{IsAdmissible-integer_matrix}
use Rattle.cox_context.proofs.IntervalLists.{is_below, between-of}
use Rattle.cox_poly.proofs.Behind.{Puts-failed}
use Rattle.cox_print.specs.AnswerText.{elements_text}
use Rattle.cox_replies.specs.Putting.{words_at}
use Rattle.cox_replies.proofs.Unless.{PutsPrefix-none}
use Rattle.cox_replies.proofs.intervals.put_between.Goals as goal

pub returns-in_err-between : goal.returns-in_err-between
returns-in_err-between c = λ w list.
    let context = c.args.context.now in
    let A = integer_matrix context.matrix in
    let between = filter (λ x. is_below A c.args.y.now.items x) context.members in (
      elements_text context.matrix.rank between,
      (between, between-of A (IsAdmissible-integer_matrix context.matrix c.requires.group) c.args.y.now.items w context.members list, refl),
      Puts-failed _ _ _ _ (search rules) (PutsPrefix-none _ _ _ refl),
    )

pub returns : goal.returns
returns c = λ w list.
    let context = c.args.context.now in
    let words = words_at context.members c.in_ok-between.between.items in (
      elements_text context.matrix.rank words,
      (words, (c.in_ok-between.ensures {u = tt}).between w list, refl),
      rw c.as_slice.ensures.value at c.put_members.ensures,
    )
