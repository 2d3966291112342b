-- The proof of `put_shorter`.
use Rattle.std.proofs.Common.{◌+◌, ◌==◌, filter, length, refl, rules}
use Rattle.cox_base.specs.IntegerMatrix.{integer_matrix}
use Rattle.cox_base.specs.Length.{word_length}
use Rattle.cox_reflect.proofs.Admissible.{IsAdmissible-integer_matrix}
use Rattle.cox_base.specs.SortedList.{IsListOf}
use Rattle.cox_base.specs.Interval.{IsCoatom}
use Rattle.cox_context.proofs.IntervalLists.{coatoms-of}
use Rattle.cox_poly.proofs.Behind.{Puts-failed}
use Rattle.cox_print.specs.AnswerText.{elements_text}
use Rattle.cox_replies.specs.Putting.{words_at}
use Rattle.cox_replies.proofs.Unless.{PutsPrefix-none}
use Rattle.cox_replies.proofs.intervals.put_shorter.Goals as goal

pub returns-in_err-coatoms : goal.returns-in_err-coatoms
returns-in_err-coatoms c = λ w list is.
    let context = c.args.context.now in
    let A = integer_matrix context.matrix in
    let coatoms = filter (λ x. length x + 1 == word_length A w) context.members in (
      elements_text context.matrix.rank coatoms,
      (coatoms, coatoms-of A (IsAdmissible-integer_matrix context.matrix c.requires.group) w context.members list, refl),
      Puts-failed _ _ _ _ (search rules) (PutsPrefix-none _ _ _ refl),
    )

pub returns : goal.returns
returns c = λ w list is.
    let context = c.args.context.now in
    let A = integer_matrix context.matrix in
    let words = words_at context.members c.in_ok-coatoms.coatoms.items in
    let are : IsListOf (IsCoatom A w) words =
    rw ((c.in_ok-coatoms.ensures {u = tt}).coatoms, is)
    (coatoms-of A (IsAdmissible-integer_matrix context.matrix c.requires.group) w context.members list) in
    (elements_text context.matrix.rank words, (words, are, refl), rw c.as_slice.ensures.value at c.put_members.ensures)
