-- How many polynomials are added up for a row.
use Rattle.std.proofs.Common.{◌≡◌, ℕ, zero, suc, List, ◌+◌, ◌-◌, ◌*◌, ◌<◌, ◌≤◌, length, Bool, true, false, refl, ⊎_elim, arith}
use Rattle.std.proofs.lemmas.Bool.{cases_lt}
use Rattle.cox_base.specs.Bruhat.{IsBelow}
use Rattle.cox_context.specs.Closed.{Elements}
use Rattle.cox_context.specs.Numbers.{word_at}
use Rattle.cox_row.specs.Extremal.{IsExtremal}
use Rattle.cox_row.specs.Rising.{number_at}
use Rattle.cox_row.specs.ExtremalNumbers.{AreExtremal}
use Rattle.cox_row.proofs.RisingNumbers.{rising-most}
use Rattle.cox_base.specs.IntegerMatrix.{integer_matrix}
use Rattle.cox_base.specs.Admissible.{IsAdmissible}
use Rattle.cox_context.specs.Closed.{IsClosed}
use Rattle.cox_context.proofs.Shifting.{later-not_below}
use Rattle.cox_row_builder.specs.Underway.{AreBare}
use Rattle.cox_row_builder.specs.Counted.{counted}
use Rattle.cox_klstep.specs.CountedSteps.{IsWithinCost, IsWithinCostTo, IsCounted, IsCountedTo}

more-times : (a b l : ℕ) → a ≤ b → a * l ≤ b * l
more-times a b l h =
    let d : ℕ = b - a
    in let is : b ≡ a + d = omega (arith, h)
    in let sum : b * l ≡ a * l + d * l = rw is (grind arith)
    in omega (arith, sum)

times-more : (cost k l : ℕ) → k ≤ l → cost * k ≤ cost * l
times-more cost k l h =
    let d : ℕ = l - k
    in let is : l ≡ k + d = omega (arith, h)
    in let sum : cost * l ≡ cost * k + cost * d = rw is (grind arith)
    in omega (arith, sum)

module _ (e : Elements) (i : ℕ) where
  -- with a greater cost
  pub cost-most : (a b old new : ℕ) → a ≤ b → IsWithinCost e i a old new → IsWithinCost e i b old new
  cost-most a b old new l h extremal are = omega (arith, h extremal are, more-times a b (length extremal) l)

  module _ (cost old : ℕ) where
    pub cost-start : (done : ℕ) → IsWithinCostTo e i cost done old old
    cost-start done extremal are = (0, omega arith, λ k l. absurd (omega (arith, l)), omega arith)

    pub cost-later : (done later new : ℕ) → done ≤ later → IsWithinCostTo e i cost done old new → IsWithinCostTo e i cost later old new
    cost-later done later new l h extremal are =
        let count = h extremal are in (count.0, count.1, λ k m. omega (arith, count.2 k m, l), count.3)

    pub cost-end : (done new : ℕ) → IsWithinCostTo e i cost done old new → IsWithinCost e i cost old new
    cost-end done new h extremal are =
        let count = h extremal are in omega (arith, count.3, times-more cost count.0 (length extremal) count.1)

    -- one extremal member more that is below w
    pub cost-next : (x new newer : ℕ) → IsExtremal (integer_matrix e.matrix) (word_at e.members i) (word_at e.members x)
        → x < length e.members → IsBelow (integer_matrix e.matrix) (word_at e.members x) (word_at e.members i) → newer ≤ new + cost
        → IsWithinCostTo e i cost x old new → IsWithinCostTo e i cost (x + 1) old newer
    cost-next x new newer is inside below most h extremal are =
        let count = h extremal are
        in let at = are.whole x inside is below
        in let after : count.0 ≤ at.0 = ⊎_elim (λ (less : at.0 < count.0). absurd (omega (arith, count.2 at.0 less, at.2)))
        (λ (l : count.0 ≤ at.0). l) (cases_lt at.0 count.0)
        in let more = times-more cost (count.0 + 1) (at.0 + 1) (omega (arith, after))
        in let one : cost * (count.0 + 1) ≡ cost * count.0 + cost = grind arith
        in (
          at.0 + 1,
          omega (arith, at.1),
          λ k l. omega (arith, rising-most extremal are.rising k at.0 (omega (arith, l)) at.1, at.2),
          omega (arith, more, one, most, count.3),
        )

-- ---- one at least for each extremal member

module _ (e : Elements) (i old : ℕ) where
  pub counted-start : IsCountedTo e i 0 old old
  counted-start = record { kept = omega arith; each = λ extremal are k l m. absurd (omega (arith, m)) }

  pub counted-later : (done later new : ℕ) → AreBare e i done later → IsCountedTo e i done old new → IsCountedTo e i later old new
  counted-later done later new bare h = record {
    kept = h.kept;
    each = λ extremal are k l m. ⊎_elim
        (λ (less : number_at extremal k < done). h.each extremal are k l less)
        (λ (more : done ≤ number_at extremal k). absurd (bare (number_at extremal k) more m (are.extremal k l) (are.below k l)))
        (cases_lt (number_at extremal k) done);
  }

  -- one extremal member more, for which something was added up
  pub counted-next : (x new newer : ℕ) → counted new 1 ≤ newer → new ≤ newer → IsCountedTo e i x old new
      → IsCountedTo e i (x + 1) old newer
  counted-next x new newer some kept h = record {
    kept = omega (arith, kept, h.kept);
    each = λ extremal are k l m. ⊎_elim
        (λ (less : number_at extremal k < x). let before = h.each extremal are k l less in omega (arith, before, kept))
        (λ (more : x ≤ number_at extremal k).
        let is : number_at extremal k ≡ x = omega (arith, m, more)
        in first extremal are k l is some)
        (cases_lt (number_at extremal k) x);
  }
    where
      first : (extremal : List ℕ) → AreExtremal (integer_matrix e.matrix) e.members (word_at e.members i) extremal
          → (k : ℕ) → k < length extremal → number_at extremal k ≡ x → counted new 1 ≤ newer → counted old (k + 1) ≤ newer
      first extremal are zero l is one = omega (arith, one, h.kept)
      first extremal are (suc k) l is one =
          let rises = are.rising k (suc k) (omega arith) l
          in let before = h.each extremal are k (omega (arith, l)) (omega (arith, rises, is))
          in omega (arith, before, one)

  -- each member up to w is done
  pub counted-end : IsAdmissible (integer_matrix e.matrix) → IsClosed (integer_matrix e.matrix) e.members → i < length e.members
      → (done new : ℕ) → i < done → IsCountedTo e i done old new → IsCounted e i old new
  counted-end g closed inside done new all h extremal are = at_end (length extremal) refl
    where
      at_end : (n : ℕ) → n ≡ length extremal → counted old n ≤ new
      at_end zero is = omega (arith, h.kept)
      at_end (suc k) is =
          let l : k < length extremal = omega (arith, is)
          in let early : number_at extremal k < done = ⊎_elim
          (λ (less : number_at extremal k < done). less)
          (λ (more : done ≤ number_at extremal k). absurd (later-not_below (integer_matrix e.matrix) g e.members closed
          (number_at extremal k) i (are.within k l) inside (omega (arith, more, all)) (are.below k l)))
          (cases_lt (number_at extremal k) done)
          in let some = h.each extremal are k l early in omega (arith, some)

-- a polynomial that may be added up
pub added-most : (added : Bool) (old new : ℕ) → (added ≡ true → new ≡ counted old 1) → (added ≡ false → new ≡ old) → new ≤ old + 1
added-most true old new one none = let is = one refl in omega (arith, is)
added-most false old new one none = let is = none refl in omega (arith, is)
