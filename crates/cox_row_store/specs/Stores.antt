-- A store as callers see it.
use Rattle.std.specs.Prelude.{ℤ}
use Rattle.cox_context.specs.Closed.{Elements}
use Rattle.cox_claims.specs.declared.seat.Seat.{Seat}
use Rattle.cox_claims.specs.Tables.{IsSeatOf}
use Rattle.cox_row_store.specs.declared.store.RowStore.{RowStore}

-- the Coxeter matrix and the members that the rows are of
abbrev pub elements_of : RowStore → Elements
elements_of store = store.anchor.elements

-- the greatest absolute value that a coefficient may have
abbrev pub limit_of : RowStore → ℤ
limit_of store = store.limit

-- the seat is one at this store
abbrev pub IsSeat : RowStore → Seat → Type 0
IsSeat store seat = IsSeatOf store.claims seat
