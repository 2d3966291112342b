-- The coefficients are put behind those that were there, and so is their span.
use Rattle.std.proofs.Common.{arith}
use Rattle.cox_rowcheck.specs.declared.entries.Span.{Span}
use Rattle.cox_rowcheck.proofs.StoredEntries.{appended-more}
use Rattle.cox_rowcheck.proofs.entries.Entries.push_combined.Goals as goal

abbrev span : goal.In_ok-push → Span
span c = record { start = c.len-start.result; end = c.len-end.result }

pub invariant_of-self-2 : goal.invariant_of-self-2
invariant_of-self-2 c =
    let e = c.self.inside
    in let more = (c.in_ok-append_combined.ensures {u = tt}).appended
    in rw c.in_ok-push.ensures.items (appended-more e.coefficients.items c.append_combined.new.list.items _ e.spans.items (span c)
    c.self.invariant more (omega (arith, c.len-start.ensures)) (omega (arith, c.len-end.ensures))).0

pub returns : goal.returns
returns c =
    let e = c.self.inside
    in let more = (c.in_ok-append_combined.ensures {u = tt}).appended
    in rw (← c.self.view_is, c.in_ok-push.ensures.items)
    (appended-more e.coefficients.items c.append_combined.new.list.items _ e.spans.items
    (span c) c.self.invariant more (omega (arith, c.len-start.ensures)) (omega (arith, c.len-end.ensures))).1
