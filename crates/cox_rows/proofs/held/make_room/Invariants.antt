-- The places that are appended have no rows.
use Rattle.std.proofs.Common.{◌≡◌, ℕ, ◌+◌, ◌-◌, length}
use Rattle.cox_row.specs.RowLists.{row_at}
use Rattle.cox_rows.proofs.held.make_room.Given as goal

abbrev pub invariant-places : goal.invariant-places
invariant-places l = (j : ℕ) → row_at l.rows.items j ≡ row_at l.initial.rows.items j

abbrev pub decreases-places : goal.decreases-places
decreases-places l = l.i + 1 - length l.rows.items
