-- What is there is the row.
use Rattle.std.proofs.Common.{None, sym, ◌∙◌}
use Rattle.cox_rows.proofs.HeldRows.{row-predicate}
use Rattle.cox_rows.proofs.held.Held.get.Goals as goal

pub returns-in-Some-Some-clause-row : goal.returns-in-Some-Some-clause-row
returns-in-Some-Some-clause-row c =
    let at = c.in-Some-Some.ensures.lookup.3.1 None
    in rw (← c.self.view_is) (row-predicate c.self.inside.context c.self.inside.limit c.self.inside.rows.items c.args.i c.in-Some-Some.row
    c.self.invariant (rw c.deref.ensures.value at (sym at ∙ c.in-Some-Some.field-0-is)))
