-- What work leaves: a worker that can go on, a seat that is kept, and the rows that it read.
use Rattle.std.proofs.Common.{◌≡◌, ℕ, Option, Some, None, IfSome}
use Rattle.std.specs.Global.{Vec}
use Rattle.std.specs.Option.{option_or}
use Rattle.cox_base.specs.IntegerMatrix.{integer_matrix}
use Rattle.cox_base.specs.Admissible.{IsAdmissible}
use Rattle.cox_claims.specs.declared.seat.Seat.{Seat}
use Rattle.cox_claims.specs.Knowledge.{SeesAll}
use Rattle.cox_claims.specs.Seats.{view_of}
use Rattle.cox_context.specs.Closed.{IsClosed}
use Rattle.cox_row_symmetry.specs.declared.descents.Descent.{Descent}
use Rattle.cox_row_symmetry.specs.DescentOf.{IsDescentAt}
use Rattle.cox_row_builder.specs.declared.steps.Steps.{Steps}
use Rattle.cox_klstep.specs.declared.tables.Tables.{Tables}
use Rattle.cox_klstep.specs.TablesOf.{AreTables}
use Rattle.cox_row_store.specs.Stores.{IsSeat}
use Rattle.cox_workers.specs.declared.worker_context.WorkerContext.{WorkerContext}
use Rattle.cox_workers.specs.declared.worker_scratch.WorkerScratch.{WorkerScratch}
use Rattle.cox_workers.specs.Ready.{IsWorkerReady, IsWorkFor}
use Rattle.cox_workers.specs.SeatChanges.{IsNeededAt, IsSeatKept}
use Rattle.cox_workers.proofs.NeedsByNumber.{lower-needed_at}
use Rattle.cox_workers.proofs.SeatSteps.{kept-trans, kept-needed}

-- a seat that has seen all that it had seen is as ready
pub ready_still : {worker : WorkerContext} {a b : Seat} {h : WorkerScratch} → IsWorkerReady worker a h → IsSeat worker.store.now b
    → SeesAll (view_of a) (view_of b) → IsWorkerReady worker b h
ready_still r own seen = record { own = own; rows = r.rows; tables = r.tables; seen = λ i on. seen.published i (r.seen i on) }

pub work-trans : {worker : WorkerContext} {i : ℕ} {a b c : Seat} {h k l : WorkerScratch}
    → IsWorkFor worker i a b h k → IsWorkFor worker i b c k l
    → IsWorkFor worker i a c h l
work-trans {worker} {i} {a} {b} {c} s t = record {
  ready = t.ready;
  kept = kept-trans worker.context.now i a b c s.kept t.kept;
  rows = λ j on. t.rows j (s.rows j on);
}

-- a seat that is kept, with the same scratch memory
pub work-same : {worker : WorkerContext} {i : ℕ} {a b : Seat} {h : WorkerScratch}
    → IsWorkerReady worker a h → IsSeat worker.store.now b
    → IsSeatKept worker.context.now i a b → IsWorkFor worker i a b h h
work-same r own kept = record { ready = ready_still r own kept.seen; kept = kept; rows = λ j on. on }

-- and after other work
pub work-again : {worker : WorkerContext} {i : ℕ} {a b c : Seat} {h k : WorkerScratch}
    → IsWorkFor worker i a b h k → IsSeat worker.store.now c
    → IsSeatKept worker.context.now i b c → IsWorkFor worker i a c h k
work-again w own kept = work-trans w (work-same w.ready own kept)

-- for a row that is needed, so for the row that needs it
pub work-needed : {worker : WorkerContext} {i u : ℕ} {a b : Seat} {h k : WorkerScratch}
    → IsAdmissible (integer_matrix worker.context.now.matrix)
    → IsNeededAt worker.context.now i u → IsWorkFor worker u a b h k → IsWorkFor worker i a b h k
work-needed {worker} {i} {u} {a} {b} g n w =
    record { ready = w.ready; kept = kept-needed worker.context.now g i u a b n w.kept; rows = w.rows }

-- the shorter element of a member, by its least left descent, is needed
pub work-lower : {worker : WorkerContext} {i : ℕ} {a b : Seat} {h k : WorkerScratch}
    → IsAdmissible (integer_matrix worker.context.now.matrix)
    → IsClosed (integer_matrix worker.context.now.matrix) worker.context.now.members → (d : Descent) → IsDescentAt worker.context.now d
    → d.member ≡ i → IsWorkFor worker d.lower a b h k → IsWorkFor worker i a b h k
work-lower {worker} g closed d is number w = work-needed g (lower-needed_at worker.context.now g closed d is number) w

-- the same with other tables of the context in the scratch memory, and another count of steps
pub work-tables : {worker : WorkerContext} {i : ℕ} {a b : Seat} {h k : WorkerScratch} (tables : Tables) (steps : Steps)
    → AreTables worker.context.now tables
    → IsWorkFor worker i a b h k
    → IsWorkFor worker i a b h (record { rows = k.rows; tables = tables; steps = steps; corrections = k.corrections })
work-tables tables steps are w = record {
  ready = record { own = w.ready.own; rows = w.ready.rows; tables = are; seen = w.ready.seen };
  kept = w.kept;
  rows = w.rows;
}

-- the same with another list of corrections in the scratch memory
pub work-list : {worker : WorkerContext} {i : ℕ} {a b : Seat} {h k : WorkerScratch} (list : Vec ℕ)
    → IsWorkFor worker i a b h k
    → IsWorkFor worker i a b h (record { rows = k.rows; tables = k.tables; steps = k.steps; corrections = list })
work-list list w = record {
  ready = record { own = w.ready.own; rows = w.ready.rows; tables = w.ready.tables; seen = w.ready.seen };
  kept = w.kept;
  rows = w.rows;
}

-- what holds of two values that may be there holds of the first one that is
pub option_or-both : (P : ℕ → Type 0) (a b : Option ℕ) → IfSome a P → IfSome b P → IfSome (option_or a b) P
option_or-both P (Some x) b h k = h
option_or-both P None b h k = k
