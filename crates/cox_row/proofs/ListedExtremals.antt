-- The numbers of the extremal x ≤ w, one member after another.
use Rattle.std.proofs.Common.{◌≡◌, ℕ, ◌+◌, ◌<◌, ◌≤◌, List, [], ◌∷◌, ◌++◌, length, ⊎_elim, arith}
use Rattle.std.proofs.lemmas.Bool.{cases_lt}
use Rattle.cox_base.specs.IntegerMatrix.{IntegerMatrix}
use Rattle.cox_base.specs.Admissible.{IsAdmissible}
use Rattle.cox_base.specs.Bruhat.{IsBelow}
use Rattle.cox_context.specs.Closed.{IsClosed}
use Rattle.cox_context.specs.Numbers.{word_at}
use Rattle.cox_context.proofs.Shifting.{later-not_below}
use Rattle.cox_row.specs.Rising.{number_at, AreRising, AreWithin}
use Rattle.cox_row.specs.Extremal.{IsExtremal}
use Rattle.cox_row.specs.ExtremalNumbers.{AreExtremal}
use Rattle.cox_row.proofs.RisingNumbers.{each-push, rising-push, within-push, found-push}

module _ (A : IntegerMatrix) (members : List (List ℕ)) (w : List ℕ) where
  -- the numbers below n of the extremal x ≤ w, rising
  pub record AreExtremalTo (n : ℕ) (numbers : List ℕ) : Type 0 where
    pub rising : AreRising numbers
    pub within : AreWithin n numbers
    pub extremal : (k : ℕ) → k < length numbers → IsExtremal A w (word_at members (number_at numbers k))
    pub below : (k : ℕ) → k < length numbers → IsBelow A (word_at members (number_at numbers k)) w
    pub whole : (x : ℕ) → x < n → IsExtremal A w (word_at members x) → IsBelow A (word_at members x) w
        → (k : ℕ) × (k < length numbers) × (number_at numbers k ≡ x)

  module _ (n : ℕ) (numbers : List ℕ) (h : AreExtremalTo n numbers) where
    pub extremal_to-push : IsExtremal A w (word_at members n) → IsBelow A (word_at members n) w → AreExtremalTo (n + 1) (numbers ++ n ∷ [])
    extremal_to-push e b = record {
      rising = rising-push numbers n h.rising h.within;
      within = within-push numbers n h.within;
      extremal = each-push (λ x. IsExtremal A w (word_at members x)) numbers n h.extremal e;
      below = each-push (λ x. IsBelow A (word_at members x) w) numbers n h.below b;
      whole = λ x l d c. found-push numbers n x (λ less. h.whole x less d c) l;
    }

    pub extremal_to-skip : (IsExtremal A w (word_at members n) → IsBelow A (word_at members n) w → ⊥) → AreExtremalTo (n + 1) numbers
    extremal_to-skip none = record {
      rising = h.rising;
      within = λ k l. let less = h.within k l in omega (arith, less);
      extremal = h.extremal;
      below = h.below;
      whole = λ x l e b. ⊎_elim (λ (less : x < n). h.whole x less e b)
          (λ (last : n ≤ x). let same : x ≡ n = omega (arith, l, last) in absurd (none (rw same at e) (rw same at b))) (cases_lt x n);
    }

-- none of the members behind that with the number i is below it
pub extremal_to-all : (A : IntegerMatrix) (g : IsAdmissible A) (members : List (List ℕ)) (closed : IsClosed A members) (i : ℕ)
    (numbers : List ℕ) → i < length members → AreExtremalTo A members (word_at members i) (i + 1) numbers
    → AreExtremal A members (word_at members i) numbers
extremal_to-all A g members closed i numbers inside h = record {
  rising = h.rising;
  within = λ k l. let less = h.within k l in omega (arith, less, inside);
  extremal = h.extremal;
  below = h.below;
  whole = λ x l e b. ⊎_elim (λ (early : x < i + 1). h.whole x early e b)
      (λ (late : i + 1 ≤ x). absurd (later-not_below A g members closed x i l inside (omega (arith, late)) b)) (cases_lt x (i + 1));
}
