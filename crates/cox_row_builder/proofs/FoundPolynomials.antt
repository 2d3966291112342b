-- One extremal member more with its polynomial, or a member that is not extremal or not below w.
use Rattle.std.proofs.Common.{◌≡◌, ◌≢◌, ◌⊎◌, inl, inr, ℕ, ◌+◌, ◌<◌, ◌≤◌, List, [], ◌∷◌, ◌++◌, length, ℤ, refl, sym, ◌∙◌, ⊎_elim, arith}
use Rattle.std.proofs.lemmas.Bool.{cases_lt}
use Rattle.cox_lemmas.proofs.PushedItems.{push-length, push-old, push-new, push_cases}
use Rattle.cox_base.specs.IntegerMatrix.{IntegerMatrix}
use Rattle.cox_base.specs.Bruhat.{IsBelow}
use Rattle.cox_poly.specs.Polynomial.{coefficient}
use Rattle.cox_hecke.specs.Row.{IsKazhdanLusztig}
use Rattle.cox_context.specs.Numbers.{word_at}
use Rattle.cox_row.specs.Rising.{number_at}
use Rattle.cox_row.specs.Extremal.{IsExtremal}
use Rattle.cox_row.specs.Polynomials.{polynomial_at, IsPool}
use Rattle.cox_row.proofs.RisingNumbers.{each-push, rising-push, within-push, found-push}
use Rattle.cox_row_builder.specs.LargeMembers.{IsWithinLimit}
use Rattle.cox_row_builder.specs.Underway.{IsPooled, AreBegun}

-- no member from one to another is extremal and below w
pub begun-pass : (A : IntegerMatrix) (members : List (List ℕ)) (w : List ℕ) (limit : ℤ) (q p : ℕ) (numbers places : List ℕ)
    (pool : List (List ℤ)) → q ≤ p → ((x : ℕ) → q ≤ x → x < p → IsExtremal A w (word_at members x) → IsBelow A (word_at members x) w → ⊥)
    → AreBegun A members w limit q numbers places pool → AreBegun A members w limit p numbers places pool
begun-pass A members w limit q p numbers places pool l bare h = record {
  rising = h.rising;
  before = λ k m. omega (arith, h.before k m, l);
  extremal = h.extremal;
  below = h.below;
  whole = λ y m e b small. ⊎_elim (λ (less : y < q). h.whole y less e b small) (λ (more : q ≤ y). absurd (bare y more m e b))
      (cases_lt y q);
  polynomials = h.polynomials;
  small = h.small;
}

module _ (A : IntegerMatrix) (members : List (List ℕ)) (w : List ℕ) (limit : ℤ) (x : ℕ) (numbers places : List ℕ) (pool : List (List ℤ))
  where
    pub begun-skip : (IsExtremal A w (word_at members x) → IsBelow A (word_at members x) w → IsWithinLimit A limit (word_at members x) w
        → ⊥)
        → AreBegun A members w limit x numbers places pool → AreBegun A members w limit (x + 1) numbers places pool
    begun-skip none h = record {
      rising = h.rising;
      before = λ k l. omega (arith, h.before k l);
      extremal = h.extremal;
      below = h.below;
      whole = λ y l e b small. ⊎_elim (λ (less : y < x). h.whole y less e b small)
          (λ (more : x ≤ y). let is : y ≡ x = omega (arith, l, more) in absurd (none (rw is at e) (rw is at b) (rw is at small)))
          (cases_lt y x);
      polynomials = h.polynomials;
      small = h.small;
    }

    module _ (new : List (List ℤ)) (place : ℕ) (sums : List ℤ) (pooled : IsPooled limit sums pool new place)
        (h : AreBegun A members w limit x numbers places pool) where
      grown : length pool ≤ length new
      grown = ⊎_elim (λ e. omega (arith, e)) (λ e. omega (arith, e.0)) pooled.size

      -- a place in the new pool is one in the old, or that of the new polynomial
      new_cases : (j : ℕ) → j < length new → (j < length pool) ⊎ ((j ≡ place) × ((i : ℕ) → i < length pool
          → polynomial_at pool i ≢ polynomial_at new place))
      new_cases j l = ⊎_elim (λ less. inl less) (λ (more : length pool ≤ j).
          ⊎_elim (λ e. absurd (omega (arith, e, l, more))) (λ e. inr (omega (arith, e.0, e.1, l, more), e.2)) pooled.size)
          (cases_lt j (length pool))

      kept-pool : IsPool (places ++ place ∷ []) new
      kept-pool = record {
        trimmed = λ j l. ⊎_elim (λ old. rw (pooled.kept j old) (h.polynomials.distinct.trimmed j old)) (λ is. rw is.0 pooled.trimmed)
            (new_cases j l);
        once = λ i j less l. ⊎_elim
            (λ old. rw (pooled.kept i (omega (arith, less, old)), pooled.kept j old) (h.polynomials.distinct.once i j less old))
            (λ is. ⊎_elim
            (λ (old : i < length pool). rw (is.0, pooled.kept i old) (is.1 i old))
            (λ (high : length pool ≤ i). ⊎_elim (λ e. absurd (omega (arith, e, l, less, high)))
            (λ e. absurd (omega (arith, e.0, l, less, high)))
            pooled.size)
            (cases_lt i (length pool)))
            (new_cases j l);
        used = λ j l. ⊎_elim
            (λ old.
            let k = h.polynomials.distinct.used j old
            in (k.0, omega (arith, k.1, push-length places place), push-old places place 0 k.0 k.1 ∙ k.2))
            (λ is. (length places, omega (arith, push-length places place), push-new places place 0 (length places) refl ∙ sym is.0))
            (new_cases j l);
        few = ⊎_elim (λ e. omega (arith, e, h.polynomials.distinct.few, push-length places place))
            (λ e. omega (arith, e.0, h.polynomials.distinct.few, push-length places place)) pooled.size;
      }

      pub begun-keep : IsExtremal A w (word_at members x) → IsBelow A (word_at members x) w
          → IsKazhdanLusztig A (word_at members x) w (coefficient sums)
          → AreBegun A members w limit (x + 1) (numbers ++ x ∷ []) (places ++ place ∷ []) new
      begun-keep extremal below is = record {
        rising = rising-push numbers x h.rising h.before;
        before = within-push numbers x h.before;
        extremal = each-push (λ y. IsExtremal A w (word_at members y)) numbers x h.extremal extremal;
        below = each-push (λ y. IsBelow A (word_at members y) w) numbers x h.below below;
        whole = λ y l e b within. found-push numbers x y (λ (less : y < x). h.whole y less e b within) l;
        polynomials = record {
          size = omega (arith, h.polynomials.size, push-length numbers x, push-length places place);
          placed = λ k l. ⊎_elim
              (λ (old : k < length places). rw (push-old places place 0 k old) (omega (arith, h.polynomials.placed k old, grown)))
              (λ (last : k ≡ length places). rw (push-new places place 0 k last) pooled.within)
              (push_cases places place k l);
          distinct = kept-pool;
          value = λ k l. ⊎_elim
              (λ (old : k < length numbers).
              let m : k < length places = omega (arith, old, h.polynomials.size)
              in rw (push-old numbers x 0 k old, push-old places place 0 k m, pooled.kept (number_at places k) (h.polynomials.placed k m))
              (h.polynomials.value k old))
              (λ (last : k ≡ length numbers).
              rw (push-new numbers x 0 k last, push-new places place 0 k (omega (arith, last, h.polynomials.size)))
              record { row = is.row; is = is.is; at = λ d. pooled.same d ∙ is.at d })
              (push_cases numbers x k l);
        };
        small = λ j l. ⊎_elim (λ old. rw (pooled.kept j old) (h.small j old)) (λ is. rw is.0 pooled.small) (new_cases j l);
      }
