-- The tables of a builder: with the identity alone, and with one member more.
use Rattle.std.proofs.Common.{◌≡◌, ℕ, ◌+◌, ◌≤◌, ◌<◌, List, [], ◌∷◌, ◌++◌, length, Option, None, Some}
use Rattle.std.proofs.Common.{⊎_elim, arith}
use Rattle.cox_lemmas.proofs.PushedItems.{push-length, push_cases}
use Rattle.arrayvec.specs.ArrayVec.{ArrayVec}
use Rattle.cox_base.specs.Admissible.{IsAdmissible, IsCoxeterMatrix}
use Rattle.cox_base.specs.IntegerMatrix.{IntegerMatrix, integer_matrix}
use Rattle.cox_base.specs.declared.limits.TheConstants.{MAX_LETTERS}
use Rattle.cox_reflect.proofs.Admissible.{IsAdmissible-integer_matrix}
use Rattle.cox_context.specs.declared.members.TheConstants.{MAX_MEMBERS}
use Rattle.cox_context.specs.Closed.{IsClosed}
use Rattle.cox_context.specs.Numbers.{word_at}
use Rattle.cox_context.specs.Shifts.{AreLeftShifts}
use Rattle.cox_context.specs.Rows.{IsRowPushed}
use Rattle.cox_context.specs.WantedMembers.{IsTop}
use Rattle.cox_context.specs.Growth.{IsNext, AreBelowTop}
use Rattle.cox_context.specs.Building.{Search, Building, IsBuilder}
use Rattle.cox_context.proofs.PlacedWords.{contains-at, word_at-old, word_at-new}
use Rattle.cox_context.proofs.ShiftRows.{shifts-push}
use Rattle.cox_context.proofs.ClosedContexts.{identity-closed}
use Rattle.cox_reflect.proofs.Bruhat.{below-least}

-- ---- the identity alone

identity-below : (A : IntegerMatrix) → IsAdmissible A → (top : Option (ArrayVec ℕ)) → AreBelowTop A top ([] ∷ [])
identity-below A g None i l = tt
identity-below A g (Some top) i l = let e : i ≡ 0 = omega (arith, l) in rw e (below-least A g top.items)

pub builder-start : (search : Search) (table : List ℕ) → IsCoxeterMatrix search.matrix → IsTop (integer_matrix search.matrix) search.top
    → 1 ≤ search.limit → search.limit ≤ MAX_MEMBERS → AreLeftShifts (integer_matrix search.matrix) ([] ∷ []) table
    → IsBuilder search ([] ∷ []) table
builder-start search table matrix top some limit left =
    let g : IsAdmissible (integer_matrix search.matrix) = IsAdmissible-integer_matrix search.matrix matrix
    in record {
      matrix = matrix;
      top = top;
      limit = limit;
      room = some;
      closed = identity-closed (integer_matrix search.matrix) g;
      left = left;
      below = identity-below (integer_matrix search.matrix) g search.top;
    }

-- ---- what contracts see of a builder

pub builder-seen : {x v : Building} {table : List ℕ} → x ≡ v → IsBuilder x.search x.members table → IsBuilder v.search v.members table
builder-seen e b = rw e at b

-- ---- one member more

module _ (search : Search) (members : List (List ℕ)) (table : List ℕ) (b : IsBuilder search members table) (y lower : List ℕ)
    (next : IsNext (integer_matrix search.matrix) members search.top y lower) where
  pub builder-push : length members < search.limit → IsClosed (integer_matrix search.matrix) (members ++ y ∷ []) → (new : List ℕ)
      → IsRowPushed search.matrix.rank (length members) lower (search.matrix.rank + 1) table new → IsBuilder search (members ++ y ∷ []) new
  builder-push room closed new pushed = record {
    matrix = b.matrix;
    top = b.top;
    limit = b.limit;
    room = omega (arith, room, push-length members y);
    closed = closed;
    left = shifts-push (integer_matrix search.matrix) (IsAdmissible-integer_matrix search.matrix b.matrix) members y closed lower table new
        b.left next.numbers pushed;
    below = λ i l. ⊎_elim (λ (less : i < length members). rw (word_at-old members y i less) (b.below i less))
        (λ (last : i ≡ length members). rw (word_at-new members y i last) next.meant) (push_cases members y i l);
  }

  -- no word is too long
  pub short-push : length y ≤ MAX_LETTERS → (i : ℕ) → i < length members + 1 → length (word_at (members ++ y ∷ []) i) ≤ MAX_LETTERS
  short-push short i l =
      ⊎_elim (λ (less : i < length members). rw (word_at-old members y i less) (b.closed.short (word_at members i)
      (contains-at members i less)))
      (λ (last : i ≡ length members). rw (word_at-new members y i last) short)
      (push_cases members y i (omega (arith, l, push-length members y)))
