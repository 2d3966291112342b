-- The context stays, the seat is one at the store that holds nothing, and what was there is there or in the store; up to here it was moved.
use Rattle.std.proofs.Common.{ℕ, ◌⊎◌, ◌<◌, ◌≤◌}
use Rattle.cox_claims.specs.Seats.{HoldsNothing, HasSeen}
use Rattle.cox_row_store.specs.Stores.{IsSeat}
use Rattle.cox_rows.specs.Holding.{HasRow}
use Rattle.cox_answers.specs.Kept.{IsSameContext}
use Rattle.cox_shell.specs.MovedRows.{IsSeenTaken}
use Rattle.cox_shell.proofs.workers.move_rows.Given as goal

abbrev pub invariant-loop-i : goal.invariant-loop-i
invariant-loop-i g l = record {
  same : IsSameContext l.fn.rows l.rows;
  own : IsSeat l.store l.seat;
  idle : HoldsNothing l.seat;
  there : (i : ℕ) → HasRow l.fn.rows i → HasRow l.rows i ⊎ HasSeen l.seat i;
  moved : (i : ℕ) → i < l.i → HasRow l.fn.rows i → IsSeenTaken l.seat i;
  ahead : (i : ℕ) → l.i ≤ i → HasRow l.fn.rows i → HasRow l.rows i;
}
