-- A loop that puts a letter s before a word: the heights are replaced one by one. Its numbers have the width w.
use Rattle.std.proofs.Common.{◌≡◌, ℕ, ◌+◌, ◌-◌, ◌*◌, ◌^◌, ◌≤◌, ◌<◌, List, ◌∷◌, length, set, ℤ, ◌-ℤ◌, ◌*ℤ◌, nat_abs}
use Rattle.std.proofs.Common.{to_z, of_z, ap, ◌∙◌, arith}
use Rattle.std.proofs.lemmas.Int.{to_z-of_z}
use Rattle.std.proofs.lemmas.List.{length-set}
use mir.Syntax.{Width}
use mir.Val.{SFits, hbits}
use Rattle.cox_base.specs.declared.limits.TheConstants.{MAX_RANK}
use Rattle.cox_base.specs.Matrix.{CoxeterMatrix, IsLetter}
use Rattle.cox_base.specs.Admissible.{IsCoxeterMatrix, IsAdmissible}
use Rattle.cox_base.specs.IntegerMatrix.{integer_matrix, entry_of}
use Rattle.cox_reflect.specs.RootHeight.{at_letter}
use Rattle.cox_reflect.specs.Height.{AreHeights, AreShortWith}
use Rattle.cox_reflect.proofs.Admissible.{IsAdmissible-integer_matrix}
use Rattle.cox_reflect.proofs.Computed.{difference-tested, difference-value}
use Rattle.cox_reflect.proofs.HeightsUnderLetters.{AreShortWith-room, AreHeights-cons}
use Rattle.cox_reflect.proofs.LetterLists.{at_letter-more, at_letter-set_other}
use Rattle.cox_reflect.proofs.Sizes.{entry-small}

-- the letters before t have their new heights, the others their old ones
pub record AreTurned (x : CoxeterMatrix) (s t : ℕ) (first now : List ℤ) : Type 0 where
  pub count : length now ≡ MAX_RANK
  pub new : (q : ℕ) → IsLetter x.rank q → q < t → at_letter now q ≡ at_letter first q -ℤ (entry_of x s q *ℤ at_letter first s)
  pub old : (q : ℕ) → IsLetter x.rank q → t ≤ q → at_letter now q ≡ at_letter first q

module _ (x : CoxeterMatrix) (matrix : IsCoxeterMatrix x) (w : Width) (s : ℕ) (first : List ℤ) (l : IsLetter x.rank s)
    (first_fits : SFits w (at_letter first s)) where
  g : IsAdmissible (integer_matrix x)
  g = IsAdmissible-integer_matrix x matrix

  -- the height of s is small where both elements have few letters, so the test of it does not fail,
  pub own-tested : {P : Type 0} (n size largest : ℕ) → 1 ≤ n → 4 ^ n < 2 ^ hbits w → AreShortWith (integer_matrix x) n s first
      → size ≡ nat_abs (to_z w (of_z w (at_letter first s))) → largest < size → 2 ^ hbits w ≤ 3 * largest + 3 → P
  own-tested n size largest some small short is over large =
      let room = AreShortWith-room (integer_matrix x) g n (hbits w) s first some small l short
      in absurd (omega (arith, room.own, rw (to_z-of_z w (at_letter first s) first_fits) at is, over, large))

  -- and what passes it is small
  pub own-small : (size largest : ℕ) → size ≡ nat_abs (to_z w (of_z w (at_letter first s))) → size ≤ largest → 3 * largest < 2 ^ hbits w
      → 3 * nat_abs (at_letter first s) < 2 ^ hbits w
  own-small size largest is passes large =
      omega (arith, rw (to_z-of_z w (at_letter first s) first_fits) at is, passes, large)

  -- ---- a turn, for the entry r

  module _ (own : 3 * nat_abs (at_letter first s) < 2 ^ hbits w) (t : ℕ) (k : IsLetter x.rank t) (now : List ℤ)
      (c : AreTurned x s t first now) (r : ℤ) (is : r ≡ entry_of x s t) (r_fits : SFits w r) (fits : SFits w (at_letter now t)) where
    here : at_letter now t ≡ at_letter first t
    here = c.old t k (omega arith)

    pub turned-tested : {P : Type 0} (n : ℕ) → 1 ≤ n → 4 ^ n < 2 ^ hbits w → AreShortWith (integer_matrix x) n s first
        → (SFits w (to_z w (of_z w (at_letter now t)) -ℤ to_z w (of_z w (to_z w (of_z w r) *ℤ to_z w (of_z w (at_letter first s))))) → ⊥)
        → P
    turned-tested n some small short fails =
        let room = AreShortWith-room (integer_matrix x) g n (hbits w) s first some small l short
        in difference-tested w (at_letter now t) r (at_letter first s) (entry_of x s t) fits r_fits first_fits is
        (entry-small (integer_matrix x) g s t) own (rw here (room.each t k)) fails

    pub turned-next : (v : ℤ) → x.rank ≤ MAX_RANK → SFits w v
        → v ≡ to_z w (of_z w (at_letter now t)) -ℤ to_z w (of_z w (to_z w (of_z w r) *ℤ to_z w (of_z w (at_letter first s))))
        → AreTurned x s (t + 1) first (set now (t - 1) (to_z w (of_z w v)))
    turned-next v limit v_fits tested =
        let value = difference-value w (at_letter now t) r (at_letter first s) (entry_of x s t) fits r_fits first_fits is
        (entry-small (integer_matrix x) g s t) own v v_fits tested
        in record {
          count = length-set now (t - 1) _ ∙ c.count;
          new = at_letter-more now x.rank t _ (λ q. at_letter first q -ℤ (entry_of x s q *ℤ at_letter first s)) k.from_one
              (omega (arith, c.count, k.to_rank, limit))
              (value ∙ ap (λ (z : ℤ). z -ℤ (entry_of x s t *ℤ at_letter first s)) here) c.new;
          old = λ q m above. at_letter-set_other now t q _ k.from_one m.from_one (λ e. omega arith) ∙ c.old q m (omega arith);
        }

  -- after the last turn they are the heights of s u
  pub turned-end : (t : ℕ) (now : List ℤ) → AreTurned x s t first now → x.rank < t
      → (u : List ℕ) → AreHeights (integer_matrix x) u first → AreHeights (integer_matrix x) (s ∷ u) now
  turned-end t now c last u a =
      AreHeights-cons (integer_matrix x) g s u first now l a (λ q k. c.new q k (omega (arith, k.to_rank, last)))
