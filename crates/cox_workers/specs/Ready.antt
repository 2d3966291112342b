-- When a worker can work, and what its work leaves.
use Rattle.std.specs.Prelude.{ℕ, Option, IfSome}
use Rattle.cox_claims.specs.declared.seat.Seat.{Seat}
use Rattle.cox_claims.specs.Seats.{HasSeen}
use Rattle.cox_klstep.specs.TablesOf.{AreTables}
use Rattle.cox_row_store.specs.Stores.{limit_of, IsSeat}
use Rattle.cox_workers.specs.declared.worker_context.WorkerContext.{WorkerContext}
use Rattle.cox_workers.specs.declared.worker_scratch.WorkerScratch.{WorkerScratch}
use Rattle.cox_workers.specs.RowsRead.{IsRead, AreReadRows}
use Rattle.cox_workers.specs.SeatChanges.{IsSeatKept}

-- the seat is one at the store, the scratch memory is for its rows, and the seat has seen all rows Published that are read there
pub record IsWorkerReady (worker : WorkerContext) (seat : Seat) (scratch : WorkerScratch) : Type 0 where
  pub own : IsSeat worker.store.now seat
  pub rows : AreReadRows worker.context.now (limit_of worker.store.now) scratch.rows
  pub tables : AreTables worker.context.now scratch.tables
  pub seen : (i : ℕ) → IsRead scratch.rows i → HasSeen seat i

-- what work for the row of member i leaves: the worker can go on, its seat is kept, and it reads all rows that it read
pub record IsWorkFor (worker : WorkerContext) (i : ℕ) (old new : Seat) (from to : WorkerScratch) : Type 0 where
  pub ready : IsWorkerReady worker new to
  pub kept : IsSeatKept worker.context.now i old new
  pub rows : (j : ℕ) → IsRead from.rows j → IsRead to.rows j

-- the seat is one at the store, and the worker can work with it, if it has scratch memory
pub record IsSeatWith (worker : WorkerContext) (seat : Seat) (scratch : Option WorkerScratch) : Type 0 where
  pub own : IsSeat worker.store.now seat
  pub ready : IfSome scratch (IsWorkerReady worker seat)
