-- The proof of `row_sums`.
use Rattle.std.proofs.Common.{◌≡◌, ◌+◌, ◌<◌, length, ◌∙◌, arith}
use Rattle.std.proofs.lemmas.Int.{ints}
use Rattle.cox_base.specs.IntegerMatrix.{integer_matrix}
use Rattle.cox_base.specs.Admissible.{IsAdmissible}
use Rattle.cox_base.specs.Length.{word_length}
use Rattle.cox_reflect.proofs.Elements.{same-sym}
use Rattle.cox_poly.specs.Products.{times_q_power}
use Rattle.cox_hecke.proofs.OneRow.{row-same}
use Rattle.cox_context.specs.Closed.{IsClosed}
use Rattle.cox_context.specs.Numbers.{word_at}
use Rattle.cox_replies.proofs.RowMembers.{member-same}
use Rattle.cox_replies.proofs.RowSums.{sum-more, sum-interval}
use Rattle.cox_replies.proofs.sums.row_sums.Goals as goal

pub loop-x-preserved : goal.loop-x-preserved
loop-x-preserved c =
    let e = c.args.rows.now.elements in
    let A = integer_matrix e.matrix in
    let inside : c.loop-x.x < length e.members = omega (arith, c.requires.member) in
    record {
      sum = λ p row k.
          let more = sum-more c.loop-x.x e.members (λ x. times_q_power (word_length A x) (p x)) k inside in
          let next = c.add_member.ensures.sum p row k in
          let before = c.loop-x.invariant.sum p row k in
          omega (arith, ints, more, next, before);
      small = λ k. let next = c.add_member.ensures.small k in let before = c.loop-x.invariant.small k in omega (arith, next, before);
    }

pub returns : goal.returns
returns c = λ w p list is row are k.
    let e = c.args.rows.now.elements in
    let A = integer_matrix e.matrix in
    let g : IsAdmissible A = rw c.context.ensures.context at c.len.ensures.admissible in
    let closed : IsClosed A e.members = rw c.context.ensures.context at c.len.ensures.closed in
    let end : c.loop-x.x ≡ c.args.i + 1 = omega arith in
    let same = same-sym A g (member-same A g e.members closed c.args.i c.requires.member w is) in
    rw end at (c.loop-x.invariant.sum p (row-same A g w (word_at e.members c.args.i) p same row) k)
    ∙ sum-interval A g w p row e.members closed c.args.i c.requires.member is list are k
