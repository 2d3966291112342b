-- The proof of `put_lines`.
use Rattle.std.proofs.Common.{rules}
use Rattle.cox_base.specs.IntegerMatrix.{integer_matrix}
use Rattle.cox_base.specs.ShortLex.{normal_form}
use Rattle.cox_reflect.proofs.Admissible.{IsAdmissible-integer_matrix}
use Rattle.cox_reflect.proofs.NormalElements.{element-word}
use Rattle.cox_context.specs.Closed.{IsClosed}
use Rattle.cox_context.specs.Numbers.{word_at}
use Rattle.cox_context.proofs.PlacedWords.{contains-at}
use Rattle.cox_print.proofs.ThreeTexts.{Puts-first_of_three, Puts-second_of_three, Puts-third_of_three}
use Rattle.cox_certtext.specs.CertificateParts.{certificate_head, certificate_foot}
use Rattle.cox_replies.specs.RowReply.{pairs_text}
use Rattle.cox_replies.specs.Putting.{words_at}
use Rattle.cox_replies.proofs.certificates.put_lines.Goals as goal

pub put_head-requires : goal.put_head-requires
put_head-requires c =
    let e = c.args.rows.now.elements in
    let g = IsAdmissible-integer_matrix e.matrix c.requires.group in
    let closed : IsClosed (integer_matrix e.matrix) e.members = rw c.context-context.ensures.context at c.len.ensures.closed in
    let element = closed.element (word_at e.members c.args.i) (contains-at e.members c.args.i c.requires.member) in
    rw (c.word.ensures, c.matrix.ensures, c.context-context.ensures.context) (element-word (integer_matrix e.matrix) g _ element)

pub returns-in_err-put_head : goal.returns-in_err-put_head
returns-in_err-put_head c = λ w p is row.
    let e = c.args.rows.now.elements in
    let A = integer_matrix e.matrix in
    Puts-first_of_three _ (certificate_head e.matrix (normal_form A w))
    (pairs_text A w p (words_at e.members c.args.below.now)) certificate_foot _ _ (search rules)
    (rw (c.word.ensures, c.matrix.ensures, c.context-context.ensures.context, is) at (c.in_err-put_head.ensures {u = tt}))

pub returns-in_err-put_pairs : goal.returns-in_err-put_pairs
returns-in_err-put_pairs c = λ w p is row.
    let e = c.args.rows.now.elements in
    let A = integer_matrix e.matrix in
    Puts-second_of_three _ (certificate_head e.matrix (normal_form A w))
    (pairs_text A w p (words_at e.members c.args.below.now)) certificate_foot _ _ _
    (rw (c.word.ensures, c.matrix.ensures, c.context-context.ensures.context, is) at (c.in_ok-put_head.ensures {u = tt}))
    (search rules) (c.in_err-put_pairs.ensures {u = tt} w p is row)

pub returns : goal.returns
returns c = λ w p is row.
    let e = c.args.rows.now.elements in
    let A = integer_matrix e.matrix in
    Puts-third_of_three _ (certificate_head e.matrix (normal_form A w))
    (pairs_text A w p (words_at e.members c.args.below.now)) certificate_foot _ _ _ _
    (rw (c.word.ensures, c.matrix.ensures, c.context-context.ensures.context, is) at (c.in_ok-put_head.ensures {u = tt}))
    (c.in_ok-put_pairs.ensures {u = tt} w p is row) c.put_foot.ensures
