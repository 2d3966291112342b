-- The narrow entry says what the entry says.
use Rattle.std.proofs.Common.{sym, ◌∙◌}
use Rattle.cox_context.proofs.NarrowTables.{narrow_number-none, narrow_number-other, narrow-entry}
use Rattle.cox_context.proofs.shifts.entry_by.Goals as goal

pub returns-then-number : goal.returns-then-number
returns-then-number c = sym (narrow_number-none _ c.if-number.true)
    ∙ narrow-entry c.args.rank c.args.table.now c.args.narrow.now c.args.s c.args.i c.place.result c.in-Some.field-0.now c.requires.narrow
    c.place.ensures c.in-Some.ensures.lookup.3.0 (c.in-Some.ensures.lookup.3.1 0)

pub returns-else-number : goal.returns-else-number
returns-else-number c = sym (narrow_number-other _ c.if-number.false)
    ∙ narrow-entry c.args.rank c.args.table.now c.args.narrow.now c.args.s c.args.i c.place.result c.in-Some.field-0.now c.requires.narrow
    c.place.ensures c.in-Some.ensures.lookup.3.0 (c.in-Some.ensures.lookup.3.1 0)
