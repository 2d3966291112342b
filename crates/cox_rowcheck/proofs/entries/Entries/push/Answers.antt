-- The coefficients are put behind those that were there, and so is their span.
use Rattle.std.proofs.Common.{arith}
use Rattle.cox_rowcheck.proofs.StoredEntries.{pieces-more}
use Rattle.cox_rowcheck.proofs.entries.Entries.push.Goals as goal

pub returns : goal.returns
returns c =
    let e = c.self.inside
    in rw (← c.self.view_is, c.in_ok-extend_from_slice.ensures.items, c.in_ok-push.ensures.items)
    (pieces-more e.coefficients.items c.args.f.now e.spans.items c.self.invariant
    (record { start = c.len-start.result; end = c.len-end.result })
    (omega (arith, c.len-start.ensures)) (omega (arith, c.len-end.ensures, c.in_ok-extend_from_slice.ensures.len)))
