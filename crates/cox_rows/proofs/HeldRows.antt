-- Rows by place: what is held is what is there, and the rows after one is put or taken out.
use Rattle.std.proofs.Common.{◌≡◌, ◌≢◌, ⊎_elim, ℕ, zero, suc, ◌<◌, List, [], ◌∷◌, length, true, false, Option, None, Some, is_some}
use Rattle.std.proofs.Common.{Result, Ok, Err, refl, sym, ◌∙◌}
use Rattle.std.specs.Prelude.{IfSome, OnOk, OnErr, slice_index_or, ℤ}
use Rattle.std.proofs.lemmas.Bool.{cases_eq}
use Rattle.cox_context.specs.Closed.{Elements}
use Rattle.cox_row.specs.declared.row.Row.{Row}
use Rattle.cox_row.specs.RowLists.{row_at}
use Rattle.cox_rows.specs.Holding.{IsHeldRow, AreRows, held}

-- a place is held where a row is there
pub held-at : (rows : List (Option Row)) (i : ℕ) → slice_index_or (held rows) i false ≡ is_some (row_at rows i)
held-at [] i = refl
held-at (row ∷ rows) zero = refl
held-at (row ∷ rows) (suc i) = held-at rows i

-- the row at a place is what the predicate says
pub row-predicate : (e : Elements) (limit : ℤ) (rows : List (Option Row)) (i : ℕ) (row : Row) → AreRows e limit rows
    → row_at rows i ≡ Some row → IsHeldRow e limit i row
row-predicate e limit rows i row are is = rw is at (are.each i)

-- no row is there
pub not-there : (found : Option Row) → found ≡ None → is_some found ≡ true → ⊥
not-there None e s = cc
not-there (Some row) e s = cc

-- what is held is the row of a member
pub held-row : (e : Elements) (limit : ℤ) (rows : List (Option Row)) → AreRows e limit rows → (i : ℕ)
    → slice_index_or (held rows) i false ≡ true → (row : Row) × IsHeldRow e limit i row
held-row e limit rows are i some = go (row_at rows i) (are.each i) (sym (held-at rows i) ∙ some)
  where
    go : (found : Option Row) → IfSome found (IsHeldRow e limit i) → is_some found ≡ true → (row : Row) × IsHeldRow e limit i row
    go None h t = absurd (cc)
    go (Some row) h t = (row, h)

pub held-member : (e : Elements) (limit : ℤ) (rows : List (Option Row)) → AreRows e limit rows → (i : ℕ)
    → slice_index_or (held rows) i false ≡ true → i < length e.members
held-member e limit rows are i some = (held-row e limit rows are i some).1.member

-- the row of the member i was put, or there was no memory
pub rows-put : {T E : Type 0} (e : Elements) (limit : ℤ) (old new : List (Option Row)) (i : ℕ) (row : Row) (result : Result T E)
    → AreRows e limit old → IsHeldRow e limit i row → OnOk result (row_at new i ≡ Some row)
    → ((j : ℕ) → j ≢ i → row_at new j ≡ row_at old j) → OnErr result ((j : ℕ) → row_at new j ≡ row_at old j) → AreRows e limit new
rows-put e limit old new i row (Ok done) are is at others failed = record {
  least = are.least;
  each = λ j. ⊎_elim (λ (here : j ≡ i). rw (here, at) is) (λ (apart : j ≢ i). rw (others j apart) (are.each j)) (cases_eq j i);
}
rows-put e limit old new i row (Err fault) are is at others failed =
    record { least = are.least; each = λ j. rw (failed j) (are.each j) }

-- the row of the member i was taken out
pub rows-taken : (e : Elements) (limit : ℤ) (old new : List (Option Row)) (i : ℕ) → AreRows e limit old → row_at new i ≡ None
    → ((j : ℕ) → j ≢ i → row_at new j ≡ row_at old j) → AreRows e limit new
rows-taken e limit old new i are gone others = record {
  least = are.least;
  each = λ j. ⊎_elim (λ (here : j ≡ i). rw (here, gone) tt) (λ (apart : j ≢ i). rw (others j apart) (are.each j)) (cases_eq j i);
}
