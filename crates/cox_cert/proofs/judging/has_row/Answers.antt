-- The last of the members is the element.
use Rattle.std.proofs.Common.{sym, ap, ◌∙◌, length}
use Rattle.std.proofs.lemmas.Result.{IfOk-weaker, on_err_weaker}
use Rattle.cox_cert.proofs.Judgings.{draft-small, draft-count, last-inside, row-interval, row-short, row-few, row-decided, row-bounded}
use Rattle.cox_cert.proofs.judging.has_row.Goals as goal

pub is_row-requires-clause-w : goal.is_row-requires-clause-w
is_row-requires-clause-w c =
    last-inside c.args.draft.now c.requires.certificate c.requires.top c.requires.interval c.args.context.now.matrix
    c.args.context.now.members c.len-last.result c.requires.matrix c.requires.members c.len-last.ensures.len

pub is_row-requires-clause-count : goal.is_row-requires-clause-count
is_row-requires-clause-count c =
    ap length c.as_slice.ensures.value ∙ draft-count c.args.draft.now c.requires.certificate c.requires.small
    ∙ ap length (sym c.requires.members)

pub is_row-requires-clause-interval : goal.is_row-requires-clause-interval
is_row-requires-clause-interval c =
    row-interval c.args.draft.now c.requires.certificate c.requires.top c.requires.interval c.args.context.now.matrix
    c.args.context.now.members c.len-last.result c.requires.matrix c.requires.members c.len-last.ensures.len

pub is_row-requires-clause-small : goal.is_row-requires-clause-small
is_row-requires-clause-small c =
    rw c.as_slice.ensures.value (draft-small c.args.draft.now c.requires.certificate c.requires.small)

pub is_row-requires-clause-short : goal.is_row-requires-clause-short
is_row-requires-clause-short c =
    row-short c.args.draft.now c.requires.certificate c.requires.top c.requires.interval c.args.context.now.matrix
    c.args.context.now.members c.len-last.result c.requires.matrix c.requires.members c.len-last.ensures.len

pub is_row-requires-clause-few : goal.is_row-requires-clause-few
is_row-requires-clause-few c =
    row-few c.args.draft.now c.requires.certificate c.requires.top c.requires.interval c.args.context.now.matrix
    c.args.context.now.members c.len-last.result c.requires.matrix c.requires.members c.len-last.ensures.len

pub returns-clause-row : goal.returns-clause-row
returns-clause-row c = IfOk-weaker c.is_row.result _ _
    (λ answer h. row-decided c.args.draft.now c.requires.certificate c.requires.top c.requires.interval c.args.context.now.matrix
    c.args.context.now.members c.len-last.result c.requires.matrix c.requires.members c.len-last.ensures.len _ answer
    c.as_slice.ensures.value h)
    c.is_row.ensures.row

pub returns-clause-bounded : goal.returns-clause-bounded
returns-clause-bounded c = on_err_weaker c.is_row.result
    (row-bounded c.args.draft.now c.requires.certificate c.requires.top c.requires.interval c.args.context.now.matrix
    c.args.context.now.members c.len-last.result c.requires.matrix c.requires.members c.len-last.ensures.len _
    c.as_slice.ensures.value)
    c.is_row.ensures.bounded
