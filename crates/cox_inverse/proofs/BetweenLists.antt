-- The members between two, as they are found one after the other.
use Rattle.std.proofs.Common.{◌≡◌, ℕ, ◌+◌, ◌<◌, ◌≤◌, List, [], ◌∷◌, ◌++◌, length, ⊎_elim, arith}
use Rattle.std.proofs.lemmas.Bool.{cases_lt}
use Rattle.cox_base.specs.IntegerMatrix.{integer_matrix}
use Rattle.cox_base.specs.Admissible.{IsAdmissible}
use Rattle.cox_base.specs.Bruhat.{IsBelow}
use Rattle.cox_context.specs.Closed.{Elements, IsClosed}
use Rattle.cox_context.specs.Numbers.{word_at}
use Rattle.cox_context.proofs.Shifting.{later-not_below}
use Rattle.cox_row.specs.Rising.{number_at, AreRising, AreWithin}
use Rattle.cox_row.proofs.RisingNumbers.{each-push, rising-push, within-push, found-push}
use Rattle.cox_inverse.specs.NumberedInverses.{AreBetween}

-- the numbers before end of the members z with y ≤ z ≤ w, rising
pub record AreFound (e : Elements) (y w end : ℕ) (numbers : List ℕ) : Type 0 where
  pub rising : AreRising numbers
  pub before : AreWithin end numbers
  pub within : AreWithin (length e.members) numbers
  pub above : (k : ℕ) → k < length numbers
      → IsBelow (integer_matrix e.matrix) (word_at e.members y) (word_at e.members (number_at numbers k))
  pub below : (k : ℕ) → k < length numbers
      → IsBelow (integer_matrix e.matrix) (word_at e.members (number_at numbers k)) (word_at e.members w)
  pub whole : (z : ℕ) → z < end → z < length e.members → IsBelow (integer_matrix e.matrix) (word_at e.members y) (word_at e.members z)
      → IsBelow (integer_matrix e.matrix) (word_at e.members z) (word_at e.members w)
      → (k : ℕ) × (k < length numbers) × (number_at numbers k ≡ z)

module _ (e : Elements) (y w : ℕ) where
  -- no member before y is above y
  pub found-start : IsAdmissible (integer_matrix e.matrix) → IsClosed (integer_matrix e.matrix) e.members → y < length e.members
      → AreFound e y w y []
  found-start g closed inside = record {
    rising = λ j k l m. absurd (omega (arith, m));
    before = λ k l. absurd (omega (arith, l));
    within = λ k l. absurd (omega (arith, l));
    above = λ k l. absurd (omega (arith, l));
    below = λ k l. absurd (omega (arith, l));
    whole = λ z less l above below. absurd (later-not_below (integer_matrix e.matrix) g e.members closed y z inside l less above);
  }

  pub found-skip : (z : ℕ) (numbers : List ℕ)
      → (IsBelow (integer_matrix e.matrix) (word_at e.members y) (word_at e.members z)
      → IsBelow (integer_matrix e.matrix) (word_at e.members z) (word_at e.members w) → ⊥)
      → AreFound e y w z numbers → AreFound e y w (z + 1) numbers
  found-skip z numbers none h = record {
    rising = h.rising;
    before = λ k l. let less = h.before k l in omega (arith, less);
    within = h.within;
    above = h.above;
    below = h.below;
    whole = λ v less l above below. ⊎_elim (λ (before : v < z). h.whole v before l above below)
        (λ (more : z ≤ v). let is : v ≡ z = omega (arith, less, more) in absurd (none (rw is at above) (rw is at below)))
        (cases_lt v z);
  }

  pub found-keep : (z : ℕ) (numbers : List ℕ) → z < length e.members → IsBelow (integer_matrix e.matrix) (word_at e.members y)
      (word_at e.members z)
      → IsBelow (integer_matrix e.matrix) (word_at e.members z) (word_at e.members w)
      → AreFound e y w z numbers → AreFound e y w (z + 1) (numbers ++ z ∷ [])
  found-keep z numbers inside above below h = record {
    rising = rising-push numbers z h.rising h.before;
    before = within-push numbers z h.before;
    within = each-push (λ v. v < length e.members) numbers z h.within inside;
    above = each-push (λ v. IsBelow (integer_matrix e.matrix) (word_at e.members y) (word_at e.members v)) numbers z h.above above;
    below = each-push (λ v. IsBelow (integer_matrix e.matrix) (word_at e.members v) (word_at e.members w)) numbers z h.below below;
    whole = λ v less l over under. found-push numbers z v (λ (before : v < z). h.whole v before l over under) less;
  }

  -- no member behind w is below w
  pub found-all : IsAdmissible (integer_matrix e.matrix) → IsClosed (integer_matrix e.matrix) e.members → w < length e.members
      → (end : ℕ) → w < end → (numbers : List ℕ) → AreFound e y w end numbers → AreBetween e y w numbers
  found-all g closed inside end all numbers h = record {
    rising = h.rising;
    within = h.within;
    above = h.above;
    below = h.below;
    whole = λ z l above below. ⊎_elim (λ (less : z < end). h.whole z less l above below)
        (λ (more : end ≤ z). absurd (later-not_below (integer_matrix e.matrix) g e.members closed z w l inside (omega
        (arith, more, all)) below))
        (cases_lt z end);
  }
