-- The shorter element and the corrections are all that the row is made from.
use Rattle.cox_row_symmetry.specs.DescentOf.{IsDescentAt}
use Rattle.cox_klstep.proofs.NeededRows.{listed-needs, identity-needs}
use Rattle.cox_rows.specs.Holding.{HasRow}
use Rattle.cox_rows.proofs.rows.Rows.has_needs.Goals as goal

pub returns-then-i-eq0 : goal.returns-then-i-eq0
returns-then-i-eq0 c t = rw c.if-i-eq0.true (identity-needs c.args.self.now.elements c.context-context.ensures.admissible
    c.context-context.ensures.closed (HasRow c.args.self.now))

pub returns-in-Ok : goal.returns-in-Ok
returns-in-Ok c t =
    let is : IsDescentAt c.args.self.now.elements c.of-descent.result = rw c.context-context.ensures.context at c.of-descent.ensures.descent
    in rw c.of-descent.ensures.number at (listed-needs c.args.self.now.elements (HasRow c.args.self.now) c.of-descent.result
    c.in-Ok.corrections.items c.context-context.ensures.admissible c.context-context.ensures.closed is c.in-Ok.ensures
    (c.has.ensures.0 c.if-not-has.false) (rw c.as_slice.ensures.value at (c.has_each.ensures t)))
