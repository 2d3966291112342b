-- What a seat has seen when rows were made.
use Rattle.std.specs.Prelude.{◌≡◌, ◌⊎◌, ℕ, ◌+◌, ◌<◌, List, length, Option}
use Rattle.cox_context.specs.Closed.{Elements}
use Rattle.cox_claims.specs.declared.seat.Seat.{Seat}
use Rattle.cox_claims.specs.Knowledge.{SeesAll, TellsSameSeats}
use Rattle.cox_claims.specs.Seats.{view_of, IsSameSeat, HoldsNothing, HasSeenEnd}
use Rattle.cox_row.specs.Rising.{number_at}
use Rattle.cox_row_store.specs.declared.store.RowStore.{RowStore}
use Rattle.cox_row_store.specs.Stores.{elements_of, IsSeat}
use Rattle.cox_claims.specs.Rule.{how_many}
use Rattle.cox_workers.specs.declared.worker_context.WorkerContext.{WorkerContext}
use Rattle.cox_workers.specs.declared.worker_scratch.WorkerScratch.{WorkerScratch}
use Rattle.cox_workers.specs.Ready.{IsSeatWith}
use Rattle.cox_workers.specs.SeatChanges.{IsNeededAt, HasEnded, MadeOfSeen}

-- row j is needed for one of the rows that are wanted
abbrev pub IsNeededForSome : Elements → List ℕ → ℕ → Type 0
IsNeededForSome e wanted j = (p : ℕ) × (p < length wanted) × IsNeededAt e (number_at wanted p) j

-- it is the same seat, none was split from it, and it met none; it holds what it held and has seen all that it had seen; it has published
-- and voided only rows that wanted ones need, and of each row that it published it has seen Published all rows that this one is made from
pub record IsSeatGrown (e : Elements) (wanted : List ℕ) (old new : Seat) : Type 0 where
  pub same : IsSameSeat old new
  pub seats : TellsSameSeats (view_of old) (view_of new)
  pub held : (view_of new).held ≡ (view_of old).held
  pub seen : SeesAll (view_of old) (view_of new)
  pub ended : (j : ℕ) → HasEnded new j → HasEnded old j ⊎ IsNeededForSome e wanted j
  pub made : MadeOfSeen e old new

-- what work on rows that are wanted leaves: the worker can go on, if it has scratch memory, and its seat has grown
pub record IsWorkOn (worker : WorkerContext) (wanted : List ℕ) (old new : Seat) (scratch : Option WorkerScratch) : Type 0 where
  pub seat : IsSeatWith worker new scratch
  pub grown : IsSeatGrown worker.context.now wanted old new

-- of each generation as many seats were met since as were split: all seats that were split from this one met it again, and so did all that
-- were split from these
abbrev pub HasMetAll : Seat → Seat → Type 0
HasMetAll old new = (d : ℕ) → how_many d (view_of new).children + how_many d (view_of old).met
    ≡ how_many d (view_of old).children + how_many d (view_of new).met

-- each place of a list
abbrev pub EachPlace : ℕ → Type 0
EachPlace p = Unit {0}

-- how a seat comes back from a fill: these members were wanted, and it had to see to those that stand at such a place of their list
pub record IsFilled (store : RowStore) (Place : ℕ → Type 0) (wanted : List ℕ) (old new : Seat) : Type 0 where
  -- it is a seat at the store
  pub own : IsSeat store new
  -- the same one
  pub same : IsSameSeat old new
  -- of the same generation
  pub generation : (view_of new).generation ≡ (view_of old).generation
  -- all seats that were split from it, and all that were split from these, met it again
  pub met : HasMetAll old new
  -- it holds no row
  pub idle : HoldsNothing new
  -- it has seen all that it had seen
  pub seen : SeesAll (view_of old) (view_of new)
  -- it, and the seats that it met, published and voided only rows that wanted ones need
  pub ended : (j : ℕ) → HasEnded new j → HasEnded old j ⊎ IsNeededForSome (elements_of store) wanted j
  -- of each row that it or they published, it has seen Published all rows that this one is made from
  pub made : MadeOfSeen (elements_of store) old new
  -- it has seen each row that is wanted at such a place Published or Void
  pub settled : (p : ℕ) → p < length wanted → Place p → HasSeenEnd new (number_at wanted p)
