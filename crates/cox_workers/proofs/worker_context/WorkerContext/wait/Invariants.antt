-- So far the seat has only looked.
use Rattle.cox_row_store.specs.Stores.{IsSeat}
use Rattle.cox_workers.specs.SeatChanges.{IsSeatKept, VoidsNone}
use Rattle.cox_workers.proofs.worker_context.WorkerContext.wait.Given as goal

abbrev pub invariant-loop : goal.invariant-loop
invariant-loop g l = record {
  own : IsSeat l.self.store.now l.seat;
  kept : IsSeatKept l.self.context.now l.i l.fn.seat l.seat;
  none : VoidsNone l.fn.seat l.seat;
}
