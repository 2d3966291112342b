-- The proof of `members_below`.
use Rattle.std.proofs.Common.{◌≡◌, ◌+◌, ◌<◌, length, filter, sym, ◌∙◌, arith}
use Rattle.std.proofs.lemmas.List.Sorted.{All-permutation}
use Rattle.cox_base.specs.IntegerMatrix.{integer_matrix}
use Rattle.cox_base.specs.Admissible.{IsAdmissible}
use Rattle.cox_base.specs.Bruhat.{IsBelow}
use Rattle.cox_base.specs.Members.{IsInInterval}
use Rattle.cox_context.specs.Closed.{IsClosed}
use Rattle.cox_context.specs.Numbers.{word_at}
use Rattle.cox_context.proofs.IntervalLists.{is_below}
use Rattle.cox_context.proofs.Shifting.{element-at}
use Rattle.cox_replies.specs.Putting.{words_at}
use Rattle.cox_replies.proofs.MemberLists.{IsKept-more, IsKept-same}
use Rattle.cox_replies.proofs.MembersAbove.{above-answer}
use Rattle.cox_replies.proofs.RowMembers.{below-first, kept-below, distinct-kept, interval-sound, interval-whole, list-in_order}
use Rattle.cox_replies.proofs.pairs.members_below.Goals as goal
use Rattle.cox_replies.proofs.pairs.members_below.Goals.{then-below+in_ok-push, else-below}

pub loop-x-preserved : goal.loop-x-preserved
loop-x-preserved c =
    let e = c.args.rows.now.elements in
    let A = integer_matrix e.matrix in
    let g : IsAdmissible A = rw c.context-context.ensures.context at c.len.ensures.admissible in
    let closed : IsClosed A e.members = rw c.context-context.ensures.context at c.len.ensures.closed in
    let inside : c.loop-x.x < length e.members = omega (arith, c.requires.member) in
    let says = rw c.context-context.ensures.context at c.below.ensures in
    let answer = above-answer A g e.members closed (word_at e.members c.loop-x.x) c.loop-x.x c.args.i c.below.result
    (sym (element-at A g e.members closed c.loop-x.x inside).normal) says in
    elim c.if-below.branch [
      | then-below+in_ok-push w ↦ rw w.below-is
          (IsKept-more (λ x. is_below A x (word_at e.members c.args.i)) e.members c.loop-x.x c.loop-x.below.items _
          c.loop-x.invariant inside (answer ∙ w.if-below.true) (w.in_ok-push.ensures {u = tt}).items)
      | else-below w ↦ rw w.below-is (IsKept-same (λ x. is_below A x (word_at e.members c.args.i)) e.members c.loop-x.x c.loop-x.below.items
          c.loop-x.invariant inside (answer ∙ w.if-below.false))
    ]

pub put_in_order-requires-clause-members : goal.put_in_order-requires-clause-members
put_in_order-requires-clause-members c = rw c.context-context.ensures.context c.loop-x.invariant.within

pub put_in_order-requires-clause-distinct : goal.put_in_order-requires-clause-distinct
put_in_order-requires-clause-distinct c =
    let e = c.args.rows.now.elements in
    let A = integer_matrix e.matrix in
    let g : IsAdmissible A = rw c.context-context.ensures.context at c.len.ensures.admissible in
    let closed : IsClosed A e.members = rw c.context-context.ensures.context at c.len.ensures.closed in
    let end : c.loop-x.x ≡ c.args.i + 1 = omega arith in
    distinct-kept A g e.members closed c.args.i c.requires.member c.loop-x.below.items
    (rw (end, below-first A g e.members closed c.args.i c.requires.member) at c.loop-x.invariant.words)

pub returns-clause-within : goal.returns-clause-within
returns-clause-within c =
    let e = c.args.rows.now.elements in
    All-permutation (λ x. x < length e.members) c.loop-x.below.items c.put_in_order.new.numbers.items c.put_in_order.ensures.same
    c.loop-x.invariant.within

pub returns-clause-below : goal.returns-clause-below
returns-clause-below c =
    let e = c.args.rows.now.elements in
    let A = integer_matrix e.matrix in
    let g : IsAdmissible A = rw c.context-context.ensures.context at c.len.ensures.admissible in
    let closed : IsClosed A e.members = rw c.context-context.ensures.context at c.len.ensures.closed in
    let end : c.loop-x.x ≡ c.args.i + 1 = omega arith in
    All-permutation (λ x. IsBelow A (word_at e.members x) (word_at e.members c.args.i)) c.loop-x.below.items
    c.put_in_order.new.numbers.items c.put_in_order.ensures.same
    (kept-below A g e.members closed c.args.i c.requires.member c.loop-x.below.items
    (rw (end, below-first A g e.members closed c.args.i c.requires.member) at c.loop-x.invariant.words))

pub returns-clause-interval : goal.returns-clause-interval
returns-clause-interval c = λ w is.
    let e = c.args.rows.now.elements in
    let A = integer_matrix e.matrix in
    let g : IsAdmissible A = rw c.context-context.ensures.context at c.len.ensures.admissible in
    let closed : IsClosed A e.members = rw c.context-context.ensures.context at c.len.ensures.closed in
    let end : c.loop-x.x ≡ c.args.i + 1 = omega arith in
    let words : words_at e.members c.loop-x.below.items ≡ filter (λ x. is_below A x (word_at e.members c.args.i)) e.members
    = rw (end, below-first A g e.members closed c.args.i c.requires.member) at c.loop-x.invariant.words in
    list-in_order (IsInInterval A w) e.members c.loop-x.below.items c.put_in_order.new.numbers.items c.put_in_order.ensures.same
    (rw c.context-context.ensures.context at c.put_in_order.ensures.order)
    (rw words (interval-sound A g e.members closed c.args.i c.requires.member w is))
    (rw words (interval-whole A g e.members closed c.args.i c.requires.member w is))
