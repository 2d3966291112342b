-- What a guard shows is the row of the member that its cell is for.
use Rattle.std.proofs.Common.{◌≡◌, ℕ, ◌<◌, List, length, slice_index_or, Option, Some, None, ℤ, subst, sym, ◌∙◌}
use Rattle.std.proofs.lemmas.List.{get_or_default}
use Rattle.cox_context.specs.Closed.{Elements}
use Rattle.cox_row.specs.declared.row.Row.{Row}
use Rattle.cox_row.specs.RowOf.{IsRowAt}
use Rattle.cox_row.specs.Within.{IsRowWithin}
use Rattle.cox_rowcell.specs.declared.cell.RowGuard.{RowGuard}
use Rattle.cox_rowcell.specs.Guards.{place_of_guard}
use Rattle.cox_rowcell.specs.RowFor.{IsRowFor}
use Rattle.cox_row_store.specs.Places.{place_at}
use Rattle.cox_workers.specs.Guarded.{guard_at}

pub guarded_row : (e : Elements) (bound : ℤ) (i : ℕ) (guard : RowGuard) (row : Row) → place_of_guard guard ≡ place_at e bound i
    → IsRowFor (place_of_guard guard) row → IsRowAt e i row × IsRowWithin bound row
guarded_row e bound i guard row at is =
    let there : IsRowFor (place_at e bound i) row = subst (λ p. IsRowFor p row) at is in (there.is, there.within)

-- a guard that was found in the list stands there
pub found_at : (guards seen : List (Option RowGuard)) (i : ℕ) (found : Option RowGuard) (guard : RowGuard) → seen ≡ guards → i < length seen
    → found ≡ slice_index_or seen i found → found ≡ Some guard → guard_at guards i ≡ Some guard
found_at guards seen i found guard same within here is =
    subst (λ list. guard_at list i ≡ Some guard) same (get_or_default seen i None found within ∙ sym here ∙ is)
