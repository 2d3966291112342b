-- What holds of each row of a member, within the limit, holds of each row that is there when a store has ended.
use Rattle.std.proofs.Common.{ℕ, ◌<◌, ◌≤◌, List, length, Option, None, Some, ℤ, ⊎_elim, arith}
use Rattle.std.specs.Prelude.{IfSome}
use Rattle.std.proofs.lemmas.Bool.{cases_lt}
use Rattle.std.proofs.lemmas.List.{get_or_past}
use Rattle.cox_context.specs.Closed.{Elements}
use Rattle.cox_claims.specs.declared.view.View.{View}
use Rattle.cox_row.specs.declared.row.Row.{Row}
use Rattle.cox_row.specs.RowLists.{row_at}
use Rattle.cox_rowcell.specs.RowFor.{IsRowFor}
use Rattle.cox_row_store.specs.Places.{place_at}
use Rattle.cox_row_store.specs.Taken.{AreTaken}

module _ (e : Elements) (bound : ℤ) (P : ℕ → Row → Type 0)
    (each : (i : ℕ) (row : Row) → i < length e.members → IsRowFor (place_at e bound i) row → P i row) where
  pub taken-each : (view : View) (rows : List (Option Row)) → AreTaken e bound view rows → (i : ℕ) → IfSome (row_at rows i) (P i)
  taken-each view rows taken i = ⊎_elim (λ (l : i < length e.members). found (row_at rows i) l (taken.each i l))
      (λ (past : length e.members ≤ i). rw (get_or_past rows i None (omega (arith, taken.count, past))) tt)
      (cases_lt i (length e.members))
    where
      found : (row : Option Row) → i < length e.members → IfSome row (IsRowFor (place_at e bound i)) → IfSome row (P i)
      found None l h = tt
      found (Some row) l h = each i row l h
