-- The conditions before the last hold, and the last holds or not.
use Rattle.std.proofs.Common.{◌≡◌, true}
use Rattle.cox_cert.specs.Judgements.{StatesRow}
use Rattle.cox_cert.proofs.Judgings.{top-is, interval-is, row-is, row-of}
use Rattle.cox_cert.proofs.judging.cause_within.Goals as goal

pub returns-then-not-branch-clause-first : goal.returns-then-not-branch-clause-first
returns-then-not-branch-clause-first c = λ d is parts.
    let draft = c.args.draft.now in (
      top-is draft d parts c.requires.top,
      interval-is draft d parts c.requires.interval,
      parts.small c.if-draft.false,
      λ h. absurd (cc (c.if-not-branch.true, c.in_ok-has_row.ensures.row.1 (row-of draft d parts c.if-draft.false h))),
    )

pub returns-clause-first : goal.returns-clause-first
returns-clause-first c = λ d is parts.
    let draft = c.args.draft.now in
    let told : c.in_ok-has_row.field-0 ≡ true = cc in
    let row : StatesRow draft = c.in_ok-has_row.ensures.row.0 told in (
      top-is draft d parts c.requires.top,
      interval-is draft d parts c.requires.interval,
      parts.small c.if-draft.false,
      row-is draft d parts c.if-draft.false row,
    )
