-- The table as callers see it.
use Rattle.std.specs.Prelude.{◌≡◌, ℕ, ◌<◌, List, map, length, slice_index_or}
use mathlib.Core.Option.{some}
use lib.ListN.{get_elem?}
use Rattle.atomic_table.specs.Table.{State}
use Rattle.cox_fill_core.specs.declared.event.RowState.{RowState}
use Rattle.cox_claims.specs.declared.view.View.{View}
use Rattle.cox_claims.specs.declared.seat.Seat.{Seat}
use Rattle.cox_claims.specs.declared.table.Claims.{Claims}
use Rattle.cox_claims.specs.declared.table.Slept.{Slept}
use Rattle.cox_claims.specs.Knowledge.{IsKnown}
use Rattle.cox_claims.specs.Rule.{state_of, KeepsRule}
use Rattle.cox_claims.specs.Seats.{table_of}

-- how many rows there are
abbrev pub rows_of : Claims → ℕ
rows_of claims = claims.rows

-- the row that a thread slept on
abbrev pub slept_on : Slept → ℕ
slept_on slept = slept.row

-- the seat sits at this table
abbrev pub IsSeatOf : Claims → Seat → Type 0
IsSeatOf claims seat = table_of seat ≡ claims.table.shared.table_id

-- a table of this many rows ended with these states, where the seat with this number had this view
pub record Closes (view : View) (number rows : ℕ) (states : List RowState) : Type 0 where
  -- a state for each row, and none earlier than what the view knows of it
  pub count : length states ≡ rows
  pub known : (i : ℕ) → i < rows → IsKnown view i (slice_index_or states i RowState.Free)
  -- they are the states of a table under the rule, with that seat
  pub table : (s : State (Unit {0}) View) × KeepsRule rows s × (get_elem? s.views number ≡ some view) × (states ≡ map state_of s.words)
