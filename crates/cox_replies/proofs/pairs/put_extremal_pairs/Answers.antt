-- The proof of `put_extremal_pairs`.
use Rattle.std.proofs.Common.{◌≢◌, ℕ, ◌<◌, List, length, All, AllPairs, refl, sym, ◌∙◌, arith, rules}
use Rattle.std.proofs.lemmas.Grind.{get_or_default_zero}
use Rattle.std.proofs.lemmas.List.Sorted.{All-permutation}
use Rattle.cox_base.specs.Bruhat.{IsBelow}
use Rattle.cox_base.specs.IntegerMatrix.{IntegerMatrix, integer_matrix}
use Rattle.cox_reflect.proofs.Admissible.{IsAdmissible-integer_matrix}
use Rattle.cox_poly.proofs.Behind.{Puts-failed}
use Rattle.cox_hecke.proofs.AllRows.{row_of, row_of-is}
use Rattle.cox_context.specs.Closed.{IsClosed}
use Rattle.cox_context.specs.Numbers.{word_at}
use Rattle.cox_row.specs.ExtremalNumbers.{AreExtremal}
use Rattle.cox_replies.specs.RowReply.{pairs_text}
use Rattle.cox_replies.specs.Putting.{words_at}
use Rattle.cox_replies.proofs.RowMembers.{extremal-list}
use Rattle.cox_replies.proofs.RowQuestions.{extremals-exist}
use Rattle.cox_replies.proofs.Unless.{PutsPrefix-none}
use Rattle.cox_replies.proofs.pairs.put_extremal_pairs.Goals as goal

-- the numbers of extremal members are those of members below, at each place
module _ (A : IntegerMatrix) (members : List (List ℕ)) (w : List ℕ) (numbers : List ℕ) (are : AreExtremal A members w numbers) where
  all-within : All (λ x. x < length members) numbers
  all-within k d l = rw (get_or_default_zero numbers k d l) (are.within k l)

  all-below : All (λ x. IsBelow A (word_at members x) w) numbers
  all-below k d l = rw (get_or_default_zero numbers k d l) (are.below k l)

  all-distinct : AllPairs (λ x y. x ≢ y) numbers
  all-distinct j k d less l same =
      let rises = are.rising j k less l in
      omega (arith, rises, sym (get_or_default_zero numbers j d (omega (arith, less, l))) ∙ same ∙ get_or_default_zero numbers k d l)

pub put_in_order-requires-clause-members : goal.put_in_order-requires-clause-members
put_in_order-requires-clause-members c =
    let e = c.args.rows.now.elements in
    rw c.context-3.ensures.context (all-within (integer_matrix e.matrix) e.members (word_at e.members c.args.i)
    c.in_ok-extremal.extremal.items (rw c.context-2.ensures.context at c.in_ok-extremal.ensures))

pub put_in_order-requires-clause-distinct : goal.put_in_order-requires-clause-distinct
put_in_order-requires-clause-distinct c =
    let e = c.args.rows.now.elements in
    let extremal = rw c.context-2.ensures.context at c.in_ok-extremal.ensures in
    all-distinct (integer_matrix e.matrix) e.members (word_at e.members c.args.i) c.in_ok-extremal.extremal.items extremal

pub put_pairs-requires-clause-members : goal.put_pairs-requires-clause-members
put_pairs-requires-clause-members c =
    let e = c.args.rows.now.elements in
    let old = c.in_ok-extremal.extremal.items in
    let new = c.put_in_order.new.numbers.items in
    rw c.as_slice.ensures.value (All-permutation (λ x. x < length e.members) old new c.put_in_order.ensures.same
    (all-within (integer_matrix e.matrix) e.members (word_at e.members c.args.i) old
    (rw c.context-2.ensures.context at c.in_ok-extremal.ensures)))

pub put_pairs-requires-clause-below : goal.put_pairs-requires-clause-below
put_pairs-requires-clause-below c =
    let e = c.args.rows.now.elements in
    let A = integer_matrix e.matrix in
    let old = c.in_ok-extremal.extremal.items in
    let new = c.put_in_order.new.numbers.items in
    rw c.as_slice.ensures.value (All-permutation (λ x. IsBelow A (word_at e.members x) (word_at e.members c.args.i)) old new
    c.put_in_order.ensures.same (all-below A e.members (word_at e.members c.args.i) old
    (rw c.context-2.ensures.context at c.in_ok-extremal.ensures)))

pub returns-in_err-extremal : goal.returns-in_err-extremal
returns-in_err-extremal c = λ w is.
    let e = c.args.rows.now.elements in
    let A = integer_matrix e.matrix in
    let g = IsAdmissible-integer_matrix e.matrix c.requires.group in
    let list = extremals-exist A g w in (
      pairs_text A w (row_of A g w) list.0,
      (row_of A g w, row_of-is A g w, (list.0, list.1, refl)),
      Puts-failed _ _ _ _ (search rules) (PutsPrefix-none _ _ _ refl),
    )

pub returns : goal.returns
returns c = λ w is.
    let e = c.args.rows.now.elements in
    let A = integer_matrix e.matrix in
    let g = IsAdmissible-integer_matrix e.matrix c.requires.group in
    let closed : IsClosed A e.members = rw c.context.ensures.context at c.len.ensures.closed in
    let old = c.in_ok-extremal.extremal.items in
    let new = c.put_in_order.new.numbers.items in
    let extremal : AreExtremal A e.members (word_at e.members c.args.i) old
    = rw c.context-2.ensures.context at c.in_ok-extremal.ensures in (
      pairs_text A w (row_of A g w) (words_at e.members new),
      (
        row_of A g w,
        row_of-is A g w,
        (
          words_at e.members new,
          extremal-list A g e.members closed c.args.i c.requires.member w is old extremal new c.put_in_order.ensures.same
              (rw c.context-3.ensures.context at c.put_in_order.ensures.order),
          refl,
        ),
      ),
      rw c.as_slice.ensures.value at (c.put_pairs.ensures w (row_of A g w) is (row_of-is A g w)),
    )
