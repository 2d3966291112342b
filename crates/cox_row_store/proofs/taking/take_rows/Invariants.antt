-- The rows taken so far are those of the cells that came, by looks of the seat, and there is room for the rest.
use Rattle.std.proofs.Common.{◌≡◌, ◌++◌, vec_capacity}
use Rattle.std.specs.Vec.Iter.{into_iter_items}
use Rattle.cox_claims.specs.Knowledge.{SeesAll}
use Rattle.cox_claims.specs.Seats.{view_of}
use Rattle.cox_claims.specs.Tables.{IsSeatOf}
use Rattle.cox_row_store.specs.Taken.{TakesRows}
use Rattle.cox_row_store.proofs.taking.take_rows.Given as goal

abbrev pub invariant-loop-cell : goal.invariant-loop-cell
invariant-loop-cell g l = record {
  all : l.yielded ++ into_iter_items l.cell-iterator ≡ l.fn.cells.items;
  own : IsSeatOf l.claims l.seat;
  sees : SeesAll (view_of l.initial.seat) (view_of l.seat);
  taken : TakesRows l.yielded (view_of l.initial.seat) (view_of l.seat) l.rows.items;
  room : vec_capacity l.rows ≡ vec_capacity l.initial.rows;
}
