-- The rows of the cells are those of the members, and what the seat had seen Published is there.
use Rattle.std.proofs.Common.{arith}
use Rattle.cox_claims.specs.Seats.{view_of}
use Rattle.cox_claims.specs.Tables.{rows_of}
use Rattle.cox_row_store.proofs.Ended.{are_taken}
use Rattle.cox_row_store.specs.Stores.{elements_of, limit_of}
use Rattle.cox_row_store.proofs.store.RowStore.into_rows.Goals as goal

pub returns : goal.returns
returns g c =
    let store = c.args.self in
    are_taken (elements_of store) (limit_of store) (view_of c.args.seat) (view_of c.take_rows.new.seat) (rows_of store.claims)
    store.cells.items c.take_rows.result.items store.a_row_each (omega (arith, store.cells.ok, store.a_cell_each)) store.placed
    c.take_rows.ensures
