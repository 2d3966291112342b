-- The proof of `put_all_pairs`.
use Rattle.std.proofs.Common.{refl, rules}
use Rattle.cox_base.specs.IntegerMatrix.{integer_matrix}
use Rattle.cox_reflect.proofs.Admissible.{IsAdmissible-integer_matrix}
use Rattle.cox_poly.proofs.Behind.{Puts-failed}
use Rattle.cox_hecke.proofs.AllRows.{row_of, row_of-is}
use Rattle.cox_context.proofs.IntervalLists.{interval-exists}
use Rattle.cox_replies.specs.RowReply.{pairs_text}
use Rattle.cox_replies.specs.Putting.{words_at}
use Rattle.cox_replies.proofs.Unless.{PutsPrefix-none}
use Rattle.cox_replies.proofs.pairs.put_all_pairs.Goals as goal

pub returns-in_err-below : goal.returns-in_err-below
returns-in_err-below c = λ w is.
    let e = c.args.rows.now.elements in
    let A = integer_matrix e.matrix in
    let g = IsAdmissible-integer_matrix e.matrix c.requires.group in
    let members = interval-exists A g w in (
      pairs_text A w (row_of A g w) members.0,
      (row_of A g w, row_of-is A g w, (members.0, members.1, refl)),
      Puts-failed _ _ _ _ (search rules) (PutsPrefix-none _ _ _ refl),
    )

pub returns : goal.returns
returns c = λ w is.
    let e = c.args.rows.now.elements in
    let A = integer_matrix e.matrix in
    let g = IsAdmissible-integer_matrix e.matrix c.requires.group in
    let words = words_at e.members c.in_ok-below.below.items in (
      pairs_text A w (row_of A g w) words,
      (row_of A g w, row_of-is A g w, (words, (c.in_ok-below.ensures {u = tt}).interval w is, refl)),
      rw c.as_slice.ensures.value at (c.put_pairs.ensures w (row_of A g w) is (row_of-is A g w)),
    )
