-- The rows that are taken from cells, one cell more.
use Rattle.std.proofs.Common.{◌≡◌, ◌≢◌, ℕ, ◌<◌, ◌≤◌, List, [], ◌∷◌, ◌++◌, length, slice_index_or, Option, None, IfSome, ⊎_elim, true, ◌==◌}
use Rattle.std.proofs.Common.{refl, sym, ap, ◌∙◌, subst}
use Rattle.std.proofs.Common.{arith, length-append}
use Rattle.std.proofs.Math.ListN.{get_or-append}
use Rattle.std.proofs.Math.Seq.{get_or-append_seam}
use Rattle.std.proofs.lemmas.Bool.{cases_lt, or_left, eq-eqb}
use Rattle.cox_fill_core.specs.declared.event.RowState.{RowState}
use Rattle.cox_claims.specs.declared.view.View.{View}
use Rattle.cox_claims.specs.Knowledge.{saw_published, SeesAll, Looks}
use Rattle.cox_row.specs.declared.row.Row.{Row}
use Rattle.cox_rowcell.specs.Place.{Place}
use Rattle.cox_rowcell.specs.RowFor.{IsRowFor}
use Rattle.cox_row.specs.RowLists.{row_at}
use Rattle.cox_row_store.specs.Taken.{TakesRows}

-- what holds of each item, and of one more, by its number
each_more : {X : Type 0} (xs : List X) (x d : X) (P : ℕ → X → Type 0) → ((i : ℕ) → i < length xs → P i (slice_index_or xs i d))
    → P (length xs) x
    → (i : ℕ) → i < length (xs ++ x ∷ []) → P i (slice_index_or (xs ++ x ∷ []) i d)
each_more xs x d P old new i within =
    ⊎_elim
    (λ less. subst (P i) (sym (get_or-append xs (x ∷ []) d i less)) (old i less))
    (λ (past : length xs ≤ i).
    let last : i ≡ length xs = omega (arith, length-append xs (x ∷ []))
    in subst (λ k. P k (slice_index_or (xs ++ x ∷ []) k d)) (sym last) (subst (P (length xs)) (sym (get_or-append_seam xs x [] d)) new))
    (cases_lt i (length xs))

-- a look that finds no state but Published has the row seen so
seen_here : (v w : View) (i : ℕ) (x : RowState) → Looks v i x w → (x ≢ RowState.Published → ⊥) → saw_published w i ≡ true
seen_here v w i RowState.Free look h = absurd (h (λ e. cc))
seen_here v w i RowState.Claimed look h = absurd (h (λ e. cc))
seen_here v w i RowState.Published look h =
    ap (λ u. saw_published u i) look.after ∙ or_left (i == i) (saw_published v i) (eq-eqb i i refl)
seen_here v w i RowState.Void look h = absurd (h (λ e. cc))

-- a look at row i found the state x, which tells whether its row was taken: what the seat had seen Published before, u, is seen still
pub takes_more : (places : List Place) (u v w : View) (rows : List (Option Row)) (p : Place) (x : RowState) (row : Option Row)
    → TakesRows places u v rows → SeesAll u v → Looks v (length rows) x w → IfSome row (IsRowFor p)
    → (x ≡ RowState.Published → row ≢ None) → (x ≢ RowState.Published → row ≡ None)
    → TakesRows (places ++ p ∷ []) u w (rows ++ row ∷ [])
takes_more places u v w rows p x row taken sees look is there none =
    let count : length (rows ++ row ∷ []) ≡ length (places ++ p ∷ []) =
    omega (arith, taken.count, length-append rows (row ∷ []), length-append places (p ∷ []))
    in record {
      count = count;
      each = λ i d within.
          let old : (k : ℕ) → k < length rows → IfSome (row_at rows k) (IsRowFor (slice_index_or (places ++ p ∷ []) k d)) =
          λ k l. ⊎_elim
          (λ (less : k < length places).
          subst (λ q. IfSome (row_at rows k) (IsRowFor q)) (sym (get_or-append places (p ∷ []) d k less)) (taken.each k d less))
          (λ (past : length places ≤ k). absurd (omega (arith, l, taken.count))) (cases_lt k (length places))
          in each_more rows row None (λ k r. IfSome r (IsRowFor (slice_index_or (places ++ p ∷ []) k d)))
          old
          (rw taken.count (subst (λ q. IfSome row (IsRowFor q)) (sym (get_or-append_seam places p [] d)) is))
          i (omega (arith, within, count));
      whole = λ i within.
          each_more rows row None (λ k r. saw_published u k ≡ true → r ≢ None)
          (λ k l. taken.whole k (omega (arith, l, taken.count))) (λ seen. there (look.known.published (sees.published (length rows) seen)))
          i (omega (arith, within, count));
      only = λ i within.
          each_more rows row None (λ k r. r ≢ None → saw_published w k ≡ true)
          (λ k l r. look.kept.published k (taken.only k (omega (arith, l, taken.count)) r))
          (λ r. seen_here v w (length rows) x look (λ other. r (none other)))
          i (omega (arith, within, count));
    }
