-- The proof of `put_cert_of`.
use Rattle.std.proofs.lemmas.Result.{err_from_is_err_and}
use Rattle.cox_base.specs.IntegerMatrix.{integer_matrix}
use Rattle.cox_replies.specs.CertReply.{RefusesListedOr, RefusesCert}
use Rattle.cox_replies.proofs.CertRefusals.{cert-listing, row-none, row-few, PutsUnless-unfound}
use Rattle.cox_replies.proofs.certificates.put_cert_of.Goals as goal

pub returns-in_err-below : goal.returns-in_err-below
returns-in_err-below c = λ limits w is free.
    let A = integer_matrix c.args.rows.now.elements.matrix in
    let finds = c.listed_below.ensures.list limits w is (row-few limits A w free) in
    let p = err_from_is_err_and c.from_residual.result c.from_residual.ensures.1 in
    rw (p.1, p.2) (PutsUnless-unfound (RefusesListedOr limits A w ⊥) (RefusesCert limits A w) _ _ (cert-listing limits A w) _
    c.listed_below.result c.in_err-below.field-0.0 (c.in_err-below.was {u = tt}) finds)

pub returns : goal.returns
returns c = λ limits w is free.
    let A = integer_matrix c.args.rows.now.elements.matrix in
    let listed = (c.in_ok-below.ensures {u = tt}).list limits w is (row-few limits A w free) in
    c.put_certificate.ensures limits w is (rw c.as_slice.ensures.value listed.1) listed.0 (row-none limits A w free)
