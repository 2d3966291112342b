-- The members that the recursion goes through, as they are read by their places.
use Rattle.std.proofs.Common.{◌≡◌, ℕ, suc, ◌-◌, ◌<◌, ◌≤◌, List, length, get_or, ℤ, ap, ◌∙◌, ⊎_elim, arith}
use Rattle.std.proofs.lemmas.List.{get_or_read}
use Rattle.cox_base.specs.IntegerMatrix.{IntegerMatrix, integer_matrix}
use Rattle.cox_base.specs.Admissible.{IsAdmissible}
use Rattle.cox_base.specs.Length.{word_length}
use Rattle.cox_base.specs.Bruhat.{IsBelow}
use Rattle.cox_reflect.proofs.Bruhat.{below-length}
use Rattle.cox_poly.specs.Polynomial.{coefficient}
use Rattle.cox_hecke.proofs.ElementLists.{below_or_not}
use Rattle.cox_context.specs.Closed.{Elements, IsClosed}
use Rattle.cox_context.specs.Numbers.{word_at}
use Rattle.cox_context.proofs.PlacedWords.{contains-at}
use Rattle.cox_context.proofs.Shifting.{length-at}
use Rattle.cox_row.specs.Rising.{number_at}
use Rattle.cox_row.proofs.RisingNumbers.{rising-few}
use Rattle.cox_inverse.specs.InverseRow.{IsInverse}
use Rattle.cox_inverse.specs.NumberedInverses.{number_before, AreBetween}
use Rattle.cox_inverse.specs.InverseFaults.{IsPair}
use Rattle.cox_inverse.specs.Intervals.{IsMemberOff}
use Rattle.cox_inverse.proofs.LastMembers.{before-member, before-above, before-below}
use Rattle.cox_inverse.proofs.RecursionSums.{AreLastOff, off-more, off-skip}

-- the number that has n others behind it, as it is read
pub read-number : (numbers : List ℕ) (len n r : ℕ) → len ≡ length numbers → n < length numbers → r ≡ get_or numbers (len - 1 - n) r
    → r ≡ number_before numbers n
read-number numbers len n r size l e =
    let place : len - 1 - n ≡ length numbers - suc n = omega (arith, size, l)
    in get_or_read numbers (len - 1 - n) r (omega (arith, size, l)) e 0 ∙ ap (number_at numbers) place

module _ (e : Elements) (g : IsAdmissible (integer_matrix e.matrix)) (closed : IsClosed (integer_matrix e.matrix) e.members) where
  abbrev A : IntegerMatrix
  A = integer_matrix e.matrix

  pub member-short : (z : ℕ) → z < length e.members → word_length A (word_at e.members z) ≤ 255
  member-short z l =
      omega (arith, length-at A g e.members closed z l, closed.short (word_at e.members z) (contains-at e.members z l))

  pub lengths-below : (x z : ℕ) → x < length e.members → z < length e.members
      → IsBelow A (word_at e.members x) (word_at e.members z) → length (word_at e.members x) ≤ length (word_at e.members z)
  lengths-below x z l m b =
      omega (arith, below-length A g b, length-at A g e.members closed x l, length-at A g e.members closed z m)

  module _ (y w : ℕ) (inside : w < length e.members) (numbers : List ℕ) (are : AreBetween e y w numbers) where
    pub read-member : (n r : ℕ) → n < length numbers → r ≡ number_before numbers n → r < length e.members
    read-member n r l is = rw is (before-member e g closed y w inside numbers are n l)

    pub read-pair : (n j x z : ℕ) → n < length numbers → j < length numbers → x ≡ number_before numbers n → z ≡ number_before numbers j
        → IsBelow A (word_at e.members x) (word_at e.members z) → IsPair e y w x z
    read-pair n j x z l m at_x at_z b = record {
      x_member = read-member n x l at_x;
      z_member = read-member j z m at_z;
      above = rw at_x (before-above e g closed y w inside numbers are n l);
      order = b;
      below = rw at_z (before-below e g closed y w inside numbers are j m);
    }

    pub numbers-few : length numbers ≤ length e.members
    numbers-few = rising-few (length e.members) numbers are.rising are.within

    -- the term of the member z is taken off, if x is below it
    pub off-member : (x z n next : ℕ) (r s old new : List ℤ) → next ≡ suc n → x < length e.members → z < length e.members
        → z ≡ number_before numbers n → r ≡ s
        → IsInverse A (word_at e.members (number_before numbers n)) (word_at e.members w) (coefficient s)
        → IsMemberOff e x z r old new
        → AreLastOff e numbers (word_at e.members w) (word_at e.members x) n old
        → AreLastOff e numbers (word_at e.members w) (word_at e.members x) next new
    off-member x z n next r s old new more l m at same is_r off before = rw more (⊎_elim
        (λ (b : IsBelow A (word_at e.members x) (word_at e.members z)). let (p, is_p, sum) = off.taken b
        in off-more e numbers (word_at e.members w) (word_at e.members x) n
        (length (word_at e.members z) - length (word_at e.members x)) p s old new (rw at at is_p) is_r
        (rw (← at) (omega (arith, length-at A g e.members closed x l, length-at A g e.members closed z m)))
        (rw same at sum) before)
        (λ (none : IsBelow A (word_at e.members x) (word_at e.members z) → ⊥). rw (off.passed none)
        (off-skip e numbers (word_at e.members w) (word_at e.members x) n old (rw at at none) before))
        (below_or_not A g (word_at e.members x) (word_at e.members z)))
