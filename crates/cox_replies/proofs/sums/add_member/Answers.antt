-- The proof of `add_member`.
use Rattle.std.proofs.Common.{◌≤◌, ◌^◌, pos, unsigned_abs, sym, ◌∙◌, arith, rules}
use Rattle.cox_base.specs.IntegerMatrix.{integer_matrix}
use Rattle.cox_base.specs.Admissible.{IsAdmissible}
use Rattle.cox_base.specs.Bruhat.{IsBelow}
use Rattle.cox_base.specs.Length.{word_length}
use Rattle.cox_context.specs.Closed.{IsClosed}
use Rattle.cox_context.specs.Numbers.{word_at}
use Rattle.cox_context.proofs.Shifting.{length-at}
use Rattle.cox_poly.specs.Polynomial.{coefficient}
use Rattle.cox_klstep.proofs.AddedSums.{after-small}
use Rattle.cox_replies.proofs.RowSums.{term-degree, sum-added}
use Rattle.cox_replies.proofs.sums.add_member.Goals as goal

pub add_scaled-requires-clause-degrees : goal.add_scaled-requires-clause-degrees
add_scaled-requires-clause-degrees c = λ k high.
    let e = c.args.rows.now.elements in
    let A = integer_matrix e.matrix in
    let g : IsAdmissible A = rw c.context.ensures.context at c.len.ensures.admissible in
    let closed : IsClosed A e.members = rw c.context.ensures.context at c.len.ensures.closed in
    let x = word_at e.members c.args.x in
    let v = word_at e.members c.args.i in
    let size = rw c.context-3.ensures.context at c.length-2.ensures.length in
    let long = rw c.context-2.ensures.context at c.length.ensures.length in
    let told = c.in-Some.ensures {u = tt} in
    let below : IsBelow A x v = told.exactly.0 (search rules) in
    let short : word_length A v ≤ 255 = omega (arith, length-at A g e.members closed c.args.i c.requires.member, long) in
    term-degree A g x v c.in-Some.polynomial c.length-2.result k short below told.value
    (size ∙ sym (length-at A g e.members closed c.args.x c.requires.x)) high

pub returns-clause-sum : goal.returns-clause-sum
returns-clause-sum c = λ p row k.
    let e = c.args.rows.now.elements in
    let A = integer_matrix e.matrix in
    let g : IsAdmissible A = rw c.context.ensures.context at c.len.ensures.admissible in
    let closed : IsClosed A e.members = rw c.context.ensures.context at c.len.ensures.closed in
    let size = rw c.context-3.ensures.context at c.length-2.ensures.length in
    c.add_scaled.ensures.sum k
    ∙ sum-added A g (word_at e.members c.args.i) p row (word_at e.members c.args.x) c.args.sums.now c.in-Some.polynomial c.length-2.result k
    (size ∙ sym (length-at A g e.members closed c.args.x c.requires.x)) (c.in-Some.ensures {u = tt}).value

pub returns-clause-small : goal.returns-clause-small
returns-clause-small c = λ k.
    let one : unsigned_abs (pos 1) ≤ 2 ^ 31 = omega arith in
    let same : unsigned_abs (coefficient c.args.sums.now k) ≤ unsigned_abs (coefficient c.args.sums.now k) = omega arith in
    let small = after-small c.args.sums.now c.in-Some.polynomial (pos 1) c.length-2.result k
    (unsigned_abs (coefficient c.args.sums.now k)) same c.degree-degree.ensures.small one in
    rw (c.add_scaled.ensures.sum k) small

pub add_scaled-requires-clause-room : goal.add_scaled-requires-clause-room
add_scaled-requires-clause-room c = λ k.
    let one : unsigned_abs (pos 1) ≤ 2 ^ 31 = omega arith in
    let small = after-small c.args.sums.now c.in-Some.polynomial (pos 1) c.length-2.result k (2 ^ 125) (c.requires.room k)
    c.degree-degree.ensures.small one in
    omega (arith, small)
