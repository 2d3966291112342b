-- The rows of a store that is ended.
use Rattle.std.specs.Prelude.{◌≡◌, ◌≢◌, ℕ, ◌<◌, true, List, length, slice_index_or, Option, None, IfSome, ℤ}
use Rattle.cox_context.specs.Closed.{Elements}
use Rattle.cox_claims.specs.declared.view.View.{View}
use Rattle.cox_claims.specs.Knowledge.{saw_published}
use Rattle.cox_row.specs.declared.row.Row.{Row}
use Rattle.cox_row.specs.RowLists.{row_at}
use Rattle.cox_rowcell.specs.Place.{Place}
use Rattle.cox_rowcell.specs.RowFor.{IsRowFor}
use Rattle.cox_row_store.specs.Places.{place_at}

-- one entry for each member: its row, or none, and none only where this view has not seen the row Published
pub record AreTaken (e : Elements) (bound : ℤ) (view : View) (rows : List (Option Row)) : Type 0 where
  pub count : length rows ≡ length e.members
  pub each : (i : ℕ) → i < length e.members → IfSome (row_at rows i) (IsRowFor (place_at e bound i))
  pub whole : (i : ℕ) → i < length e.members → saw_published view i ≡ true → row_at rows i ≢ None

-- what is taken from cells for these places by looks of a seat whose view was v and is w: for each the row, or none. None is taken only if
-- v has not seen the row Published, and a row only if w has
pub record TakesRows (places : List Place) (v w : View) (rows : List (Option Row)) : Type 0 where
  pub count : length rows ≡ length places
  pub each : (i : ℕ) (else : Place) → i < length places → IfSome (row_at rows i) (IsRowFor (slice_index_or places i else))
  pub whole : (i : ℕ) → i < length places → saw_published v i ≡ true → row_at rows i ≢ None
  pub only : (i : ℕ) → i < length places → row_at rows i ≢ None → saw_published w i ≡ true
