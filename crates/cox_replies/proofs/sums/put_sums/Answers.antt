-- The proof of `put_sums`.
use Rattle.std.proofs.Common.{◌≡◌, ◌+◌, take, refl, sym, ◌∙◌, arith}
use Rattle.cox_base.specs.IntegerMatrix.{integer_matrix}
use Rattle.cox_base.specs.Admissible.{IsAdmissible}
use Rattle.cox_base.specs.Length.{word_length}
use Rattle.cox_reflect.proofs.Search.{word_length-equal}
use Rattle.cox_poly.specs.Products.{times_q_power}
use Rattle.cox_hecke.specs.Sums.{sum_over}
use Rattle.cox_hecke.proofs.AllRows.{row_of, row_of-is}
use Rattle.cox_context.specs.Closed.{IsClosed}
use Rattle.cox_context.proofs.IntervalLists.{interval-exists}
use Rattle.cox_context.proofs.Shifting.{length-at}
use Rattle.cox_replies.specs.RowReply.{ihbetti_text, coefficients_to}
use Rattle.cox_replies.proofs.RowMembers.{member-same}
use Rattle.cox_replies.proofs.RowSums.{sums-prefix}
use Rattle.cox_replies.proofs.sums.put_sums.Goals as goal

pub returns : goal.returns
returns c = λ w is.
    let e = c.args.rows.now.elements in
    let A = integer_matrix e.matrix in
    let g : IsAdmissible A = rw c.context.ensures.context at c.len.ensures.admissible in
    let closed : IsClosed A e.members = rw c.context.ensures.context at c.len.ensures.closed in
    let words = interval-exists A g w in
    let p = row_of A g w in
    let size : c.length.result ≡ word_length A w = (rw c.context-2.ensures.context at c.length.ensures.length)
    ∙ sym (length-at A g e.members closed c.args.i c.requires.member)
    ∙ word_length-equal A g (member-same A g e.members closed c.args.i c.requires.member w is) in
    let values = c.row_sums-sums.ensures w p words.0 is (row_of-is A g w) words.1 in
    let prefix : take (c.length.result + 1) c.row_sums-sums.result
    ≡ coefficients_to c.length.result (sum_over words.0 (λ x. times_q_power (word_length A x) (p x)))
    = sums-prefix c.row_sums-sums.result c.length.result (sum_over words.0 (λ x. times_q_power (word_length A x) (p x)))
    (omega (arith, c.length.ensures.short, c.sums.ensures.size)) values in (
      ihbetti_text A w p words.0,
      (p, row_of-is A g w, (words.0, words.1, refl)),
      rw (c.sums.ensures.sums, prefix, size) at c.put_numbers.ensures,
    )
