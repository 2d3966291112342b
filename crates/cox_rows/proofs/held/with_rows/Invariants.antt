-- The rows so far were put at their places.
use Rattle.cox_rows.proofs.JoinedRows.{ArePut}
use Rattle.cox_rows.proofs.held.with_rows.Given as goal

abbrev pub invariant-places : goal.invariant-places
invariant-places l = ArePut l.fn.rows.items l.initial.more.items l.i l.all.items l.more.items
