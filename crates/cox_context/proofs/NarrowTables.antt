-- Tables of shifts with two bytes an entry: what their entries say, and that the numbers of few members fit.
use Rattle.std.proofs.Common.{◌≡◌, ℕ, zero, suc, ◌+◌, ◌-◌, ◌*◌, ◌/◌, ◌%◌, ◌<◌, ◌≤◌, List, length, get_or, Option, None, Some, refl}
use Rattle.std.proofs.Common.{arith, [], ◌∷◌, ◌++◌, slice_index, ⊎_elim}
use Rattle.std.specs.Prelude.{EachIndex, IfSome}
use Rattle.std.proofs.Math.Nat.{div-lt_iff_lt-mul}
use Rattle.std.proofs.lemmas.Bool.{ne_eqb, eq-eqb}
use Rattle.cox_lemmas.proofs.PushedItems.{push-old, push-new, push_cases}
use Rattle.cox_base.specs.Matrix.{IsLetter}
use Rattle.cox_base.specs.IntegerMatrix.{IntegerMatrix}
use Rattle.cox_context.specs.declared.shifts.TheConstants.{NO_NARROW_MEMBER}
use Rattle.cox_context.specs.Numbering.{IsNumberOf}
use Rattle.cox_context.specs.Shifts.{entry, entry_number, narrow_number, AreLeftShifts, AreRightShifts, AreNarrow}

pub narrow_number-none : (n : ℕ) → n ≡ NO_NARROW_MEMBER → narrow_number n ≡ None
narrow_number-none n e = rw (eq-eqb n NO_NARROW_MEMBER e) refl

pub narrow_number-other : (n : ℕ) → (n ≡ NO_NARROW_MEMBER → ⊥) → narrow_number n ≡ Some n
narrow_number-other n ne = rw (ne_eqb n NO_NARROW_MEMBER ne) refl

-- what is read in the narrow table says what the entry says
pub narrow-entry : (r : ℕ) (table narrow : List ℕ) (s i k number : ℕ) → AreNarrow table narrow → k ≡ i * r + (s - 1) → k < length narrow
    → number ≡ get_or narrow k 0 → narrow_number number ≡ entry r table s i
unfolding entry
narrow-entry r table narrow s i k number same place within read =
    rw (read, ← place) (same k within)

-- the letter and the member of a place in a table of so many members
record IsPlaceOf (r n k s i : ℕ) : Type 0 where
  letter : IsLetter r s
  member : i < n
  place : i * r + (s - 1) ≡ k

place-of : (r n k : ℕ) → k < n * r → IsPlaceOf r n k (k % r + 1) (k / r)
place-of zero n k within = absurd (omega (arith, within))
place-of (suc r) n k within = record {
  letter = record { from_one = omega arith; to_rank = omega arith };
  member = (div-lt_iff_lt-mul {k = suc r} (omega arith)).1 within;
  place = omega arith;
}

number-small : (members : List (List ℕ)) (word : List ℕ) (number : Option ℕ) → length members ≤ NO_NARROW_MEMBER
    → IsNumberOf members word number → IfSome number (λ k. k < NO_NARROW_MEMBER)
number-small members word None few is = tt
number-small members word (Some k) few is = omega (arith, few, is.0)

-- the numbers of few members fit into two bytes
pub left-small : (A : IntegerMatrix) (members : List (List ℕ)) (table : List ℕ) → length members ≤ NO_NARROW_MEMBER
    → AreLeftShifts A members table → EachIndex table (λ k. IfSome (entry_number (get_or table k 0)) (λ number. number < NO_NARROW_MEMBER))
unfolding entry
left-small A members table few shifts = λ k l.
    let at_place = place-of A.rank (length members) k (rw shifts.size at l)
    in rw at_place.place at
    (number-small members _ _ few (shifts.shift (k % A.rank + 1) (k / A.rank) at_place.letter at_place.member))

pub right-small : (A : IntegerMatrix) (members : List (List ℕ)) (table : List ℕ) → length members ≤ NO_NARROW_MEMBER
    → length table ≡ length members * A.rank → AreRightShifts A members table
    → EachIndex table (λ k. IfSome (entry_number (get_or table k 0)) (λ number. number < NO_NARROW_MEMBER))
unfolding entry
right-small A members table few size shifts = λ k l.
    let at_place = place-of A.rank (length members) k (rw size at l)
    in rw at_place.place at
    (number-small members _ _ few
    (shifts.shift (k % A.rank + 1) (k / A.rank) at_place.letter at_place.member (rw (at_place.place) l)))

-- one entry more
pub narrow-push : (table narrow : List ℕ) (x : ℕ) → AreNarrow table narrow
    → narrow_number x ≡ entry_number (slice_index table (length narrow)) → AreNarrow table (narrow ++ x ∷ [])
narrow-push table narrow x h is = λ k l. ⊎_elim (λ (less : k < length narrow). rw (push-old narrow x 0 k less) (h k less))
    (λ (e : k ≡ length narrow). rw (push-new narrow x 0 k e, e) is) (push_cases narrow x k l)
