-- The row of a member is made from those of members with smaller numbers; and what is known while these are taken, one after another.
use Rattle.std.proofs.Common.{ℕ, ◌<◌, ◌+◌, ◌*◌}
use Rattle.cox_workers.specs.Ready.{IsWorkFor}
use Rattle.cox_workers.specs.RowsRead.{IsRead}
use Rattle.cox_workers.specs.SeatChanges.{VoidsNone}
use Rattle.cox_row.specs.Rising.{number_at}
use Rattle.cox_workers.proofs.worker_context.WorkerContext.+ensure.Given as goal

abbrev pub decreases-ensure : goal.decreases-ensure
decreases-ensure g l = 4 * l.i + 2

abbrev pub decreases-made : goal.decreases-made
decreases-made g l = 4 * l.i + 1

abbrev pub decreases-take_in : goal.decreases-take_in
decreases-take_in g l = 4 * l.i

abbrev pub decreases-obtain : goal.decreases-obtain
decreases-obtain g l = 4 * l.u + 3

abbrev pub invariant-take_in-corrections : goal.invariant-take_in-corrections
invariant-take_in-corrections g l = record {
  work : IsWorkFor l.self l.i l.fn.seat l.seat l.fn.scratch l.scratch;
  none : VoidsNone l.fn.seat l.seat;
  stay : (j : ℕ) → IsRead l.initial.scratch.rows j → IsRead l.scratch.rows j;
  taken : (k : ℕ) → k < l.u-index → IsRead l.scratch.rows (number_at l.u-items k);
}
