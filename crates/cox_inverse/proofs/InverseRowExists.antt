-- Each element has an inverse row: q(x) is 1 where x = w, else 0, less the terms of the elements other than x, which are longer. So 0, put
-- into these sums again and again, is right at one length more each time, from that of w down.
use Rattle.std.proofs.Common.{◌≡◌, ℕ, zero, suc, ◌+◌, ◌<◌, List, [], ◌∷◌, pos, ◌-ℤ◌, neg_ℤ, refl, ap, sym, ◌∙◌, arith}
use Rattle.std.proofs.lemmas.Int.{ints}
use Rattle.cox_base.specs.IntegerMatrix.{IntegerMatrix}
use Rattle.cox_base.specs.Admissible.{IsAdmissible}
use Rattle.cox_base.specs.Element.{SameElement}
use Rattle.cox_base.specs.Length.{word_length}
use Rattle.cox_base.specs.Bruhat.{IsBelow}
use Rattle.cox_reflect.proofs.Elements.{same-refl, same-sym}
use Rattle.cox_reflect.proofs.Bruhat.{below-refl, below-trans, below-antisym, below-length}
use Rattle.cox_poly.specs.Coefficients.{Coefficients, zero_polynomial, one_polynomial}
use Rattle.cox_poly.specs.Multiples.{minus}
use Rattle.cox_hecke.specs.Family.{Family, RespectsElements}
use Rattle.cox_hecke.specs.Operators.{basis}
use Rattle.cox_hecke.specs.Sums.{sum_over}
use Rattle.cox_hecke.specs.Row.{IsRow}
use Rattle.cox_hecke.specs.ListedElements.{occurrences, ListsEach, LiesBetween}
use Rattle.cox_hecke.proofs.ListSums.{sum_over-equal, same-is_same}
use Rattle.cox_hecke.proofs.ElementLists.{Tells-ListsEach, below_list}
use Rattle.cox_hecke.proofs.AllRows.{row_of, row_of-is}
use Rattle.cox_inverse.specs.InverseRow.{signed_term, IsInverseRow}
use Rattle.cox_hecke.proofs.BasisElements.{basis-own, basis-other, basis-respects}
use Rattle.cox_inverse.proofs.InverseSums.{term-rows, term-own, term_sum-split, other_term, other_term-same}
use Rattle.cox_inverse.proofs.InverseSums.{other_terms-equal, other_terms-none}
use Rattle.cox_inverse.proofs.OneInverseRow.{inverse_row-any_list, inverse_row-from, inverse_row-unique}

module _ (A : IntegerMatrix) (g : IsAdmissible A) where
  -- ---- 0, put into the sums n times

  approximation : List ℕ → List (List ℕ) → ℕ → Family
  approximation w words zero x = zero_polynomial
  approximation w words (suc n) x = minus (basis A w x) (sum_over words (other_term A g (approximation w words n) x))

  approximation-suc : (w : List ℕ) (words : List (List ℕ)) (n : ℕ) (x : List ℕ) (k : ℕ)
      → approximation w words (suc n) x k ≡ basis A w x k -ℤ sum_over words (other_term A g (approximation w words n) x) k
  unfolding approximation
  approximation-suc w words n x k = refl

  approximation-respects : (w : List ℕ) (words : List (List ℕ)) (n : ℕ) → RespectsElements A (approximation w words n)
  unfolding approximation
  approximation-respects w words zero x y e k = refl
  approximation-respects w words (suc n) x y e k =
      let rest = sum_over-equal words (other_term A g (approximation w words n) x) (other_term A g (approximation w words n) y) k
      (λ z. other_term-same A g (approximation w words n) x y z e k)
      in omega (arith, ints, basis-respects A g w x y e k, rest)

  module _ (w : List ℕ) (words : List (List ℕ)) (each : ListsEach A (λ z. IsBelow A z w) words) where
    approximation-outside : (n : ℕ) (x : List ℕ) → (IsBelow A x w → ⊥) → (k : ℕ) → approximation w words n x k ≡ pos 0
    unfolding approximation
    approximation-outside zero x none k = refl
    approximation-outside (suc n) x none k =
        let first : basis A w x k ≡ pos 0
        = ap (λ (f : Coefficients). f k) (basis-other A g w x (λ e. none (below-refl A g (same-sym A g e))))
        in let rest = other_terms-none A g w words each (approximation w words n) x k (λ z c b l. absurd (none (below-trans A g b c)))
        in omega (arith, ints, first, rest)

    -- at x it stays the same from some round on, and the sooner the longer x is
    approximation-settled : (n : ℕ) (x : List ℕ) → word_length A w < word_length A x + n
        → (k : ℕ) → approximation w words (suc n) x k ≡ approximation w words n x k
    approximation-settled zero x l k =
        let none : IsBelow A x w → ⊥ = λ b. omega (arith, l, below-length A g b)
        in approximation-outside (suc zero) x none k ∙ sym (approximation-outside zero x none k)
    approximation-settled (suc n) x l k =
        let rest = other_terms-equal A g w words each (approximation w words (suc n)) (approximation w words n) x k
        (λ z b longer. approximation-settled n z (omega (arith, l, longer)))
        in omega (arith, ints, approximation-suc w words (suc n) x k, approximation-suc w words n x k, rest)

    approximation-is : IsInverseRow A w (approximation w words (suc (word_length A w)))
    approximation-is =
        inverse_row-from A g w q words respects (approximation-outside n) each.once
        (λ x b k. omega (
          arith,
          ints,
          term_sum-split A g words q respects x (each.once x b) k,
          approximation-settled n x (omega arith) k,
          approximation-suc w words n x k,
        ))
      where
        n : ℕ
        n = suc (word_length A w)

        q : Family
        q = approximation w words n

        respects : RespectsElements A q
        respects = approximation-respects w words n

  -- ---- an inverse row for each element

  -- from the elements below w, in l(w) + 1 rounds
  pub inverse_of : List ℕ → Family
  inverse_of w = approximation w (below_list A g w).0 (suc (word_length A w))

  -- it is an inverse row
  pub inverse_of-is : (w : List ℕ) → IsInverseRow A w (inverse_of w)
  unfolding inverse_of
  inverse_of-is w =
      approximation-is w (below_list A g w).0 (Tells-ListsEach A (λ z. IsBelow A z w) (below_list A g w).0 (below_list A g w).1)

  -- so there is one
  pub inverse_row-exists : (w : List ℕ) → (q : Family) × IsInverseRow A w q
  inverse_row-exists w = (inverse_of w, inverse_of-is w)

  -- what any inverse row has, this one has
  pub inverse_of-value : (w : List ℕ) (q : Family) → IsInverseRow A w q → (x : List ℕ) → inverse_of w x ≡ q x
  inverse_of-value w q is x = λ i k. inverse_row-unique A g w (inverse_of w) q (inverse_of-is w) is x k i

  -- ---- the recursion

  -- q(w) = 1
  pub inverse_row-top : (w : List ℕ) (q : Family) → IsInverseRow A w q → (k : ℕ) → q w k ≡ one_polynomial k
  inverse_row-top w q is k =
      omega (
        arith,
        ints,
        inverse_row-any_list A g w q is (row_of A g) (row_of-is A g) w (w ∷ []) (below-refl A g (same-refl A g w)) once k,
        term-own A g q w w (same-refl A g w) k,
        ap (λ (f : Coefficients). f k) (basis-own A g w w (same-refl A g w)),
      )
    where
      once : (z : List ℕ) → LiesBetween A w w z → occurrences A z (w ∷ []) ≡ 1
      once z c = rw (same-is_same A g (below-antisym A g c.below c.above)) refl

  -- for x < w: q(x) is the sum of the terms of the z with x < z ≤ w, with the other sign
  pub inverse_row-recursion : (w : List ℕ) (q : Family) → IsInverseRow A w q
      → (rows : List ℕ → Family) → ((z : List ℕ) → IsRow A z (rows z))
      → (x : List ℕ) (above : List (List ℕ)) → IsBelow A x w → (SameElement A x w → ⊥)
      → ((z : List ℕ) → LiesBetween A x w z → occurrences A z (x ∷ above) ≡ 1)
      → (k : ℕ) → q x k ≡ neg_ℤ (sum_over above (signed_term A rows q x) k)
  inverse_row-recursion w q is rows are x above b other once k =
      omega (
        arith,
        ints,
        inverse_row-any_list A g w q is rows are x (x ∷ above) b once k,
        ap (λ (f : Coefficients). f k) (term-rows A g rows are q x x),
        term-own A g q x x (same-refl A g x) k,
        ap (λ (f : Coefficients). f k) (basis-other A g w x (λ e. other (same-sym A g e))),
      )
