-- The sum from the other side: Q is a left inverse of the matrix of the (-1)^(l(z)-l(x)) P(x,z) as it is a right one. By association that
-- matrix times Q times that matrix is the matrix itself, and the sums with it determine a family.
use Rattle.std.proofs.Common.{◌≡◌, ℕ, ◌-◌, ◌≤◌, Bool, if◌then◌else◌, List, ◌⊎◌, inl, inr, ⊎_elim, pos, refl, ap, sym, ◌∙◌, arith}
use Rattle.std.proofs.lemmas.Int.{ints}
use Rattle.cox_base.specs.IntegerMatrix.{IntegerMatrix}
use Rattle.cox_base.specs.Admissible.{IsAdmissible}
use Rattle.cox_base.specs.Element.{SameElement}
use Rattle.cox_base.specs.Length.{word_length}
use Rattle.cox_base.specs.Bruhat.{IsBelow}
use Rattle.cox_base.specs.SortedList.{IsListOf}
use Rattle.cox_base.specs.Interval.{IsBetween}
use Rattle.cox_reflect.proofs.Elements.{same-refl, same-sym}
use Rattle.cox_reflect.proofs.Search.{word_length-equal}
use Rattle.cox_reflect.proofs.Bruhat.{below-refl, below-trans}
use Rattle.cox_poly.specs.Coefficients.{Coefficients, zero_polynomial, one_polynomial}
use Rattle.cox_poly.specs.Products.{product}
use Rattle.cox_poly.proofs.Products.{product_of_none, product-zero, zero-product, product-one, one-product, product-associative}
use Rattle.cox_rpoly.specs.Sign.{times_sign}
use Rattle.cox_rpoly.proofs.Signs.{times_sign-none}
use Rattle.cox_hecke.specs.Family.{Family, RespectsElements}
use Rattle.cox_hecke.specs.Operators.{basis}
use Rattle.cox_hecke.specs.Sums.{sum_over}
use Rattle.cox_hecke.specs.Row.{IsRow}
use Rattle.cox_hecke.specs.ListedElements.{is_same, occurrences, ListsEach, LiesBetween}
use Rattle.cox_hecke.proofs.Signed.{respected}
use Rattle.cox_hecke.proofs.ListSums.{sum_over-equal, sum_over-none, sum_over-swap, sum_over-one, sum_over-named, sum_over-lists}
use Rattle.cox_hecke.proofs.ListSums.{same_or_not, same-is_same, not_same-is_same}
use Rattle.cox_hecke.proofs.ElementLists.{Tells-ListsEach, below_list, below_or_not, sorted-once}
use Rattle.cox_hecke.proofs.OneRow.{between_or_not}
use Rattle.cox_hecke.proofs.AllRows.{row_of, row_of-is, row_of-same, row_of-value}
use Rattle.cox_inverse.specs.InverseRow.{IsInverseRow}
use Rattle.cox_hecke.proofs.ProductLaws.{product-sum_over, sum_over-product, times_sign-product, product-times_sign}
use Rattle.cox_inverse.proofs.InverseSums.{term, term-apart, term-none, named-below, term_sums-determine}
use Rattle.cox_inverse.proofs.OneInverseRow.{inverse_row-any_list, inverse_row-same, inverse_row-unique}
use Rattle.cox_hecke.proofs.BasisElements.{basis-own, basis-other, basis-respects}

module _ (A : IntegerMatrix) (g : IsAdmissible A) (inverses : List ℕ → Family) (are : (z : List ℕ) → IsInverseRow A z (inverses z)) where
  inverses-same : {y z : List ℕ} → SameElement A y z → inverses y ≡ inverses z
  inverses-same {y} {z} e =
      λ i x k. inverse_row-unique A g z (inverses y) (inverses z) (inverse_row-same A g y z (inverses y) e (are y)) (are z) x k i

  -- (-1)^(l(w)-l(z)) P(z,w)
  signed : List ℕ → Family
  signed w z = times_sign (word_length A w - word_length A z) (row_of A g w z)

  signed-respects : (w : List ℕ) → RespectsElements A (signed w)
  unfolding signed
  signed-respects w y z e k = rw (word_length-equal A g e, respected A g (row_of-is A g w).element e) refl

  signed-outside : (w z : List ℕ) → (IsBelow A z w → ⊥) → (k : ℕ) → signed w z k ≡ pos 0
  unfolding signed
  signed-outside w z n k =
      let none : row_of A g w z ≡ zero_polynomial = λ i k. (row_of-is A g w).outside z n k i
      in rw none (times_sign-none (word_length A w - word_length A z) k)

  -- the sum of the Q(x,z) (-1)^(l(w)-l(z)) P(z,w)
  side : List ℕ → List (List ℕ) → Family
  side w words x = sum_over words (λ z. product (inverses z x) (signed w z))

  side-respects : (w : List ℕ) (words : List (List ℕ)) → RespectsElements A (side w words)
  unfolding side
  side-respects w words x y e k =
      sum_over-equal words (λ z. product (inverses z x) (signed w z)) (λ z. product (inverses z y) (signed w z)) k
      (λ z. ap (λ (f : Coefficients). product f (signed w z) k) (respected A g (are z).element e))

  -- what the terms of z give together, put into the sums of x
  term-side : (w : List ℕ) (words : List (List ℕ)) (x y : List ℕ) (k : ℕ)
      → term A g (side w words) x y k ≡ sum_over words (λ z. product (term A g (inverses z) x y) (signed w z)) k
  unfolding side
  term-side w words x y k =
      times_sign-product d (row_of A g y x) (sum_over words (λ z. product (inverses z y) (signed w z))) k
      ∙ product-sum_over (times_sign d (row_of A g y x)) words (λ z. product (inverses z y) (signed w z)) k
      ∙ sum_over-equal words (λ z. product (times_sign d (row_of A g y x)) (product (inverses z y) (signed w z)))
      (λ z. product (term A g (inverses z) x y) (signed w z)) k
      (λ z. sym (product-associative (times_sign d (row_of A g y x)) (inverses z y) (signed w z) k)
      ∙ ap (λ (f : Coefficients). product f (signed w z) k) (λ i j. sym (times_sign-product d (row_of A g y x) (inverses z y) j) i))
    where
      d : ℕ
      d = word_length A y - word_length A x

  module _ (w : List ℕ) (words : List (List ℕ)) (each : ListsEach A (λ z. IsBelow A z w) words) where
    -- the condition of inverse rows, for all x
    column : (z : List ℕ) → IsBelow A z w → (x : List ℕ) (k : ℕ) → sum_over words (term A g (inverses z) x) k ≡ basis A z x k
    column z c x k = ⊎_elim
        (λ (b : IsBelow A x z). inverse_row-any_list A g z (inverses z) (are z) (row_of A g) (row_of-is A g) x words b
        (λ y l. each.once y (below-trans A g l.below c)) k)
        (λ (n : IsBelow A x z → ⊥). sum_over-none words (term A g (inverses z) x) k (λ y. apart n y)
        ∙ sym (ap (λ (f : Coefficients). f k) (basis-other A g z x (λ e. n (below-refl A g (same-sym A g e))))))
        (below_or_not A g x z)
      where
        apart : (IsBelow A x z → ⊥) → (y : List ℕ) → term A g (inverses z) x y k ≡ pos 0
        apart n y = ⊎_elim
            (λ (b : IsBelow A x y). term-none A g (inverses z) x y ((are z).outside y (λ c. n (below-trans A g b c))) k)
            (λ (m : IsBelow A x y → ⊥). term-apart A g (inverses z) x y m k)
            (below_or_not A g x y)

    side-sums : (x : List ℕ) → IsBelow A x w → (k : ℕ) → sum_over words (term A g (side w words) x) k ≡ signed w x k
    side-sums x b k =
        sum_over-equal words (term A g (side w words) x) (λ y. sum_over words (λ z. product (term A g (inverses z) x y) (signed w z))) k
        (λ y. term-side w words x y k)
        ∙ sum_over-swap words words (λ y z. product (term A g (inverses z) x y) (signed w z)) k
        ∙ sum_over-named A g words (λ z. sum_over words (λ y. product (term A g (inverses z) x y) (signed w z)))
        (λ z. if is_same A x z then signed w z else zero_polynomial) k
        (λ z some. sym (sum_over-product words (term A g (inverses z) x) (signed w z) k) ∙ own z some)
        ∙ sum_over-one A g words x (signed w) k (signed-respects w)
        ∙ rw (each.once x b) (omega (arith, ints))
      where
        own : (z : List ℕ) → (occurrences A z words ≡ 0 → ⊥)
            → product (sum_over words (term A g (inverses z) x)) (signed w z) k ≡ (if is_same A x z then signed w z else zero_polynomial) k
        own z some =
            let below : IsBelow A z w = named-below A g w words each z some
            in ap (λ (f : Coefficients). product f (signed w z) k) (λ i j. column z below x j i)
            ∙ ⊎_elim
            (λ (e : SameElement A x z). rw (basis-own A g z x (same-sym A g e), same-is_same A g e) (one-product (signed w z) k))
            (λ (n : SameElement A x z → ⊥). rw (basis-other A g z x (λ e. n (same-sym A g e)), not_same-is_same A g x z n)
            (zero-product (signed w z) k))
            (same_or_not A g x z)

    basis-sums : (x : List ℕ) → IsBelow A w w → (k : ℕ) → sum_over words (term A g (basis A w) x) k ≡ signed w x k
    unfolding signed
    basis-sums x b k =
        sum_over-equal words (term A g (basis A w) x) (λ y. if is_same A w y then signed w x else zero_polynomial) k own
        ∙ sum_over-one A g words w (λ y. signed w x) k (λ y z e k. refl)
        ∙ rw (each.once w b) (omega (arith, ints))
      where
        own : (y : List ℕ) → term A g (basis A w) x y k ≡ (if is_same A w y then signed w x else zero_polynomial) k
        own y = ⊎_elim
            (λ (e : SameElement A w y).
            let one : product (row_of A g w x) one_polynomial ≡ row_of A g w x = λ i j. product-one (row_of A g w x) j i
            in rw (basis-own A g w y e, same-is_same A g e, sym (word_length-equal A g e), sym (row_of-same A g w y e), one) refl)
            (λ (n : SameElement A w y → ⊥).
            term-none A g (basis A w) x y (λ j. ap (λ (f : Coefficients). f j) (basis-other A g w y n)) k
            ∙ sym (ap (λ (b : Bool). (if b then signed w x else zero_polynomial) k) (not_same-is_same A g w y n)))
            (same_or_not A g w y)

    side-is : (x : List ℕ) → IsBelow A x w → (k : ℕ) → side w words x k ≡ basis A w x k
    side-is = term_sums-determine A g w words each (side w words) (basis A w) (side-respects w words) (basis-respects A g w)
        (λ x b k. side-sums x b k ∙ sym (basis-sums x (below-refl A g (same-refl A g w)) k))

  -- for any list and any row
  pub inverse_rows-other_side : (w : List ℕ) (p : Family) → IsRow A w p → (x : List ℕ) (between : List (List ℕ)) → IsBelow A x w
      → IsListOf (IsBetween A x w) between
      → (k : ℕ) → sum_over between (λ z. times_sign (word_length A w - word_length A z) (product (inverses z x) (p z))) k ≡ basis A w x k
  unfolding side signed
  inverse_rows-other_side w p row x between b list k =
      sum_over-equal between (λ z. times_sign (word_length A w - word_length A z) (product (inverses z x) (p z))) one k at
      ∙ sum_over-lists A g between words one k respects (λ z. go z (between_or_not A g x w z))
      ∙ side-is w words each x b k
    where
      words : List (List ℕ)
      words = (below_list A g w).0

      each : ListsEach A (λ z. IsBelow A z w) words
      each = Tells-ListsEach A (λ z. IsBelow A z w) (below_list A g w).0 (below_list A g w).1

      one : Family
      one z = product (inverses z x) (signed w z)

      at : (z : List ℕ) → times_sign (word_length A w - word_length A z) (product (inverses z x) (p z)) k ≡ one z k
      at z =
          rw (sym (row_of-value A g w p row z))
          (product-times_sign (word_length A w - word_length A z) (inverses z x) (row_of A g w z) k)

      respects : RespectsElements A one
      respects y z e k = rw (inverses-same e, respected A g (signed-respects w) e) refl

      go : (z : List ℕ) → LiesBetween A x w z ⊎ ((IsBelow A x z → ⊥) ⊎ (IsBelow A z w → ⊥))
          → (one z k ≡ pos 0) ⊎ ((occurrences A z between ≡ occurrences A z words) × (occurrences A z words ≤ 1))
      go z (inl c) = inr (sorted-once A g x w between list z c ∙ sym (each.once z c.below), omega (arith, each.once z c.below))
      go z (inr (inl n)) = inl (product_of_none (inverses z x) (signed w z) ((are z).outside x n) k)
      go z (inr (inr n)) =
          let none : signed w z ≡ zero_polynomial = λ i k. signed-outside w z n k i
          in inl (rw none (product-zero (inverses z x) k))
