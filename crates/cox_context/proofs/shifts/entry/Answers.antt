-- The entry is read at its place.
use Rattle.std.proofs.Common.{sym, ◌∙◌}
use Rattle.cox_context.proofs.ShiftPlaces.{entry-is, entry_number-none, entry_number-other}
use Rattle.cox_context.proofs.shifts.entry.Goals as goal

pub returns-then-number : goal.returns-then-number
returns-then-number c = sym (entry_number-none _ (rw c.place.ensures at c.if-number.true))
    ∙ entry-is c.args.rank c.args.table.now c.args.s c.args.i

pub returns-else-number : goal.returns-else-number
returns-else-number c = rw c.place.ensures (sym (entry_number-other _ (rw c.place.ensures at c.if-number.false))
    ∙ entry-is c.args.rank c.args.table.now c.args.s c.args.i)
