-- The extremal members by the bits of their descents.
use Rattle.std.proofs.Common.{◌≡◌, ℕ, zero, suc, ◌+◌, ◌*◌, ◌/◌, ◌%◌, ◌^◌, ◌-◌, ◌<◌, ◌≤◌, List, [], ◌∷◌, length, ◌↔◌}
use Rattle.std.proofs.Common.{Option, None, Some, Result, Ok, Err, refl, arith}
use Rattle.std.specs.Prelude.{slice_get, IfSome, IsBitSet, OnOk}
use Rattle.std.specs.Global.{Vec}
use Rattle.std.proofs.lemmas.Nat.Bits.{bit_at_ones}
use Rattle.cox_base.specs.declared.side.Side.{Side}
use Rattle.cox_base.specs.declared.side.Side.TheVariants.{Left, Right}
use Rattle.cox_base.specs.IntegerMatrix.{integer_matrix}
use Rattle.cox_base.specs.Admissible.{IsAdmissible}
use Rattle.cox_base.specs.SideDescents.{IsDescent}
use Rattle.cox_context.specs.Closed.{Elements}
use Rattle.cox_context.specs.Numbers.{word_at}
use Rattle.cox_row.specs.Rising.{number_at}
use Rattle.cox_row.specs.Extremal.{IsExtremal}
use Rattle.cox_row_symmetry.proofs.DescentsOnSides.{lowered-letter}
use Rattle.cox_row_builder.specs.declared.target.Target.{Target}
use Rattle.cox_row_builder.specs.TargetOf.{IsTarget}
use Rattle.cox_klstep.specs.declared.descent_bits.DescentBits.{DescentBits}
use Rattle.cox_klstep.specs.ExtremalUpTo.{AreExtremalUpTo}
use Rattle.cox_klstep.specs.DescentBits.{HasBit, HasLetters, AreBits, AreLetterBits, AreDescentBits, AreNumbersOf}

-- there is an item at each place of a list
present : (letters : List (Vec ℕ)) (k : ℕ) → k < length letters → (words : Vec ℕ) × (slice_get letters k ≡ Some words)
present [] k l = absurd (omega (arith, l))
present (words ∷ letters) zero l = (words, refl)
present (words ∷ letters) (suc k) l = present letters k (omega (arith, l))

-- there is room for the words up to that of a member
pub letters-room : (e : Elements) (side : Side) (end count : ℕ) (letters : List (Vec ℕ)) → AreLetterBits e side end letters
    → (member : ℕ) → member < end → count ≡ member / 64 + 1 → (k : ℕ)
    → IfSome (slice_get letters k) (λ words. count ≤ length words.items)
letters-room e side end count letters are member l is k = room (slice_get letters k) (are.each k)
  where
    room : (found : Option (Vec ℕ)) → IfSome found (λ words. AreBits e side (k + 1) end words.items)
        → IfSome found (λ words. count ≤ length words.items)
    room None h = tt
    room (Some words) h = omega (arith, h.room, l, is)

module _ (e : Elements) (g : IsAdmissible (integer_matrix e.matrix)) (side : Side) (end : ℕ) (letters : List (Vec ℕ))
    (are : AreLetterBits e side end letters) (w : List ℕ) (set : ℕ)
    (descents : (k : ℕ) → IsBitSet set k ↔ IsDescent side (integer_matrix e.matrix) w (k + 1)) (y : ℕ) (l : y < end) where
  -- all letters of the set have the bit of y exactly where each descent of w is one of y
  letters-descents : HasLetters letters set (length letters) y → (s : ℕ) → IsDescent side (integer_matrix e.matrix) w s
      → IsDescent side (integer_matrix e.matrix) (word_at e.members y) s
  letters-descents has s d =
      let letter = lowered-letter side (integer_matrix e.matrix) g s w d
      in let same : s - 1 + 1 ≡ s = omega (arith, letter.from_one)
      in let inside : s - 1 < length letters = omega (arith, letter.from_one, letter.to_rank, are.size)
      in let words = present letters (s - 1) inside
      in let bits = rw words.1 at (are.each (s - 1))
      in rw same at ((bits.each y l).0 (rw words.1 at (has (s - 1) inside ((descents (s - 1)).1 (rw same d)))))

  descents-letters : ((s : ℕ) → IsDescent side (integer_matrix e.matrix) w s
      → IsDescent side (integer_matrix e.matrix) (word_at e.members y) s) → HasLetters letters set (length letters) y
  descents-letters all k m among = bit (slice_get letters k) (are.each k)
    where
      bit : (found : Option (Vec ℕ)) → IfSome found (λ words. AreBits e side (k + 1) end words.items)
          → IfSome found (λ words. HasBit words.items y)
      bit None h = tt
      bit (Some words) h = (h.each y l).1 (all (k + 1) ((descents k).0 among))

module _ (e : Elements) (g : IsAdmissible (integer_matrix e.matrix)) (target : Target) (is : IsTarget e target) (bits : DescentBits)
    (are : AreDescentBits e bits) (done : target.member < bits.done) (all some few : List ℕ)
    (size : length all ≡ target.member / 64 + 1) (still : length some ≡ length all)
    (full : (k : ℕ) → k < target.member / 64 + 1 → number_at all k ≡ 2 ^ 64 - 1)
    (left : (y : ℕ) → y < 64 * length all
    → HasBit some y ↔ (HasBit all y × HasLetters bits.left.items target.left (length bits.left.items) y))
    (right : (y : ℕ) → y < 64 * length some
    → HasBit few y ↔ (HasBit some y × HasLetters bits.right.items target.right (length bits.right.items) y)) where
  bit-extremal : (y : ℕ) → y < target.member + 1 → HasBit few y
      → IsExtremal (integer_matrix e.matrix) (word_at e.members target.member) (word_at e.members y)
  bit-extremal y l has =
      let second = (right y (omega (arith, l, size, still))).0 has
      in let first = (left y (omega (arith, l, size))).0 second.0
      in record {
        left = letters-descents e g Left bits.done bits.left.items are.left (word_at e.members target.member) target.left is.left y
            (omega (arith, l, done)) first.1;
        right = letters-descents e g Right bits.done bits.right.items are.right (word_at e.members target.member) target.right is.right y
            (omega (arith, l, done)) second.1;
      }

  extremal-bit : (y : ℕ) → y < target.member + 1
      → IsExtremal (integer_matrix e.matrix) (word_at e.members target.member) (word_at e.members y) → HasBit few y
  extremal-bit y l h =
      let at : HasBit all y = rw (full (y / 64) (omega (arith, l))) (bit_at_ones 64 (y % 64) (omega arith))
      in let first = (left y (omega (arith, l, size))).1 (
        at,
        descents-letters e g Left bits.done bits.left.items are.left
            (word_at e.members target.member) target.left is.left y (omega (arith, l, done)) h.left,
      )
      in (right y (omega (arith, l, size, still))).1 (
        first,
        descents-letters e g Right bits.done bits.right.items are.right
            (word_at e.members target.member) target.right is.right y (omega (arith, l, done)) h.right,
      )

  pub extremals-listed : (numbers : List ℕ) → AreNumbersOf few (target.member + 1) numbers → AreExtremalUpTo e target.member numbers
  extremals-listed numbers h = record {
    rising = h.rising;
    before = h.before;
    each = λ k l. bit-extremal (number_at numbers k) (h.before k l) (h.each k l);
    whole = λ x l d. h.whole x l (extremal-bit x l d);
  }

-- what follows from what holds after a success
pub ok-map : {T E : Type 0} (made : Result T E) (P Q : Type 0) → (P → Q) → OnOk made P → OnOk made Q
ok-map (Ok t) P Q f h = f h
ok-map (Err e) P Q f h = tt
