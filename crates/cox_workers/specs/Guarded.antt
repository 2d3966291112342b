-- Guards by the numbers of members.
use Rattle.std.specs.Prelude.{◌≡◌, ℕ, List, slice_index_or, Option, Some, None, ℤ}
use Rattle.cox_context.specs.Closed.{Elements}
use Rattle.cox_rowcell.specs.declared.cell.RowGuard.{RowGuard}
use Rattle.cox_rowcell.specs.Guards.{place_of_guard}
use Rattle.cox_row_store.specs.Places.{place_at}

-- the guard under the number i, or none
abbrev pub guard_at : List (Option RowGuard) → ℕ → Option RowGuard
guard_at guards i = slice_index_or guards i None

-- each is one of the row of the member with its number
abbrev pub AreGuarded : Elements → ℤ → List (Option RowGuard) → Type 0
AreGuarded e bound guards = (i : ℕ) (guard : RowGuard) → guard_at guards i ≡ Some guard → place_of_guard guard ≡ place_at e bound i
