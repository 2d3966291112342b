-- The rows that a store gives back at its end: each is the row of its member, within the limit, and each that was published is there.
use Rattle.std.proofs.Common.{◌≡◌, ℕ, ◌<◌, List, length, Option, None, Some, ℤ, refl, true, is_some}
use Rattle.std.specs.Prelude.{IfSome}
use Rattle.cox_context.specs.Closed.{Elements}
use Rattle.cox_claims.specs.declared.view.View.{View}
use Rattle.cox_claims.specs.Knowledge.{saw_published}
use Rattle.cox_row.specs.declared.row.Row.{Row}
use Rattle.cox_row_store.specs.Taken.{AreTaken}
use Rattle.cox_row_store.proofs.TakenRows.{taken-each}
use Rattle.cox_row.specs.RowLists.{row_at}
use Rattle.cox_rows.specs.Holding.{IsHeldRow}

pub taken-held : (e made : Elements) (limit bound : ℤ) (view : View) (rows : List (Option Row)) → made ≡ e → bound ≡ limit
    → AreTaken made bound view rows → (i : ℕ) → IfSome (row_at rows i) (IsHeldRow e limit i)
taken-held e made limit bound view rows same bounds =
    taken-each made bound (IsHeldRow e limit)
    (λ i row l h. rw (← same, ← bounds) (record { member = l; is = h.is; within = h.within })) view rows

-- a row that was seen Published is given back
pub taken-back : (made : Elements) (bound : ℤ) (view : View) (rows : List (Option Row)) → AreTaken made bound view rows → (i : ℕ)
    → i < length made.members → saw_published view i ≡ true → is_some (row_at rows i) ≡ true
taken-back made bound view rows taken i within seen = there (row_at rows i) (taken.whole i within seen)
  where
    there : (found : Option Row) → (found ≡ None → ⊥) → is_some found ≡ true
    there None some = absurd (some refl)
    there (Some row) some = refl
