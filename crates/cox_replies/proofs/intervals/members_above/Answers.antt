-- The proof of `members_above`.
use Rattle.std.proofs.Common.{◌∙◌, arith}
use Rattle.cox_base.specs.IntegerMatrix.{integer_matrix}
use Rattle.cox_reflect.proofs.Admissible.{IsAdmissible-integer_matrix}
use Rattle.cox_context.proofs.IntervalLists.{is_below, between-of}
use Rattle.cox_context.specs.Closed.{IsClosed}
use Rattle.cox_replies.proofs.MemberLists.{IsKept-none, IsKept-more, IsKept-same, IsKept-all}
use Rattle.cox_replies.proofs.MembersAbove.{above-answer, none-before, none-above}
use Rattle.cox_replies.proofs.intervals.members_above.Goals as goal
use Rattle.cox_replies.proofs.intervals.members_above.Goals.{then-below+in_ok-push, else-below}

pub returns-in_default-clause-between : goal.returns-in_default-clause-between
returns-in_default-clause-between c = λ w list.
    let A = integer_matrix c.args.context.now.matrix in
    let admissible = IsAdmissible-integer_matrix c.args.context.now.matrix c.requires.group in
    let closed : IsClosed A c.args.context.now.members = c.len-count.ensures.closed in
    let outside = rw c.requires.table at (c.in_default.ensures {u = tt}) in
    let none = none-above A admissible c.args.context.now.members closed c.args.y.now.items outside in
    rw (c.new-above.ensures.items, ← none) (between-of A admissible c.args.y.now.items w c.args.context.now.members list)

pub loop-i-init : goal.loop-i-init
loop-i-init c =
    let A = integer_matrix c.args.context.now.matrix in
    let admissible = IsAdmissible-integer_matrix c.args.context.now.matrix c.requires.group in
    let closed : IsClosed A c.args.context.now.members = c.len-count.ensures.closed in
    let found = c.in-Some.ensures {u = tt} in
    let is = rw c.requires.table at found.1 in
    rw c.new-above.ensures.items (IsKept-none (is_below A c.args.y.now.items) c.args.context.now.members c.in-Some.low
    (none-before A admissible c.args.context.now.members closed c.args.y.now.items c.in-Some.low found.0 is))

pub loop-i-preserved : goal.loop-i-preserved
loop-i-preserved c =
    let A = integer_matrix c.args.context.now.matrix in
    let admissible = IsAdmissible-integer_matrix c.args.context.now.matrix c.requires.group in
    let closed : IsClosed A c.args.context.now.members = c.len-count.ensures.closed in
    let is = rw c.requires.table at (c.in-Some.ensures {u = tt}).1 in
    let says = c.below.ensures in
    let answer = above-answer A admissible c.args.context.now.members closed c.args.y.now.items c.in-Some.low c.loop-i.i c.below.result is
    says in
    elim c.if-below.branch [
      | then-below+in_ok-push w ↦ rw w.above-is
          (IsKept-more (is_below A c.args.y.now.items) c.args.context.now.members c.loop-i.i c.loop-i.above.items _
          c.loop-i.invariant (omega arith) (answer ∙ w.if-below.true) (w.in_ok-push.ensures {u = tt}).items)
      | else-below w ↦ rw w.above-is (IsKept-same (is_below A c.args.y.now.items) c.args.context.now.members c.loop-i.i c.loop-i.above.items
          c.loop-i.invariant (omega arith) (answer ∙ w.if-below.false))
    ]

pub returns-clause-between : goal.returns-clause-between
returns-clause-between c = λ w list.
    let A = integer_matrix c.args.context.now.matrix in
    let admissible = IsAdmissible-integer_matrix c.args.context.now.matrix c.requires.group in
    let whole = IsKept-all (is_below A c.args.y.now.items) c.args.context.now.members c.loop-i.i c.loop-i.above.items c.loop-i.invariant
    (omega arith) in
    rw whole (between-of A admissible c.args.y.now.items w c.args.context.now.members list)
