-- Inversion in finite groups (Kazhdan and Lusztig 1979, theorem 3.1): for the longest element w0, P(w0 w, w0 x) is Q(x,w). By induction on
-- w: let h(x) be the sum of P(x,z) (-1)^l(z) P(w0 w, w0 z), less (-1)^l(w) where x = w. By the rows, inversion of R, and what is known of
-- the shorter elements, q^d h(x)(1/q) with d = l(w) - l(x) is the sum of R(x,y) h(y). The degree of h(x) is below d/2, and h(w) = 0. So the
-- row of w and h add up to a row of w. Each element has one row alone, so h is 0.
use Rattle.std.proofs.Common.{◌≡◌, ℕ, zero, suc, ◌+◌, ◌-◌, ◌*◌, ◌/◌, ◌≤◌, ◌<◌, Bool, true, false, if◌then◌else◌, List, ◌++◌}
use Rattle.std.proofs.Common.{◌⊎◌, inl, inr, ⊎_elim, ℤ, pos, ◌+ℤ◌, ◌*ℤ◌, refl, ap, sym, ◌∙◌, arith}
use Rattle.std.proofs.lemmas.Int.{ints}
use Rattle.std.proofs.lemmas.Bool.{false≢true}
use Rattle.cox_base.specs.IntegerMatrix.{IntegerMatrix}
use Rattle.cox_base.specs.Admissible.{IsAdmissible}
use Rattle.cox_base.specs.Element.{SameElement}
use Rattle.cox_base.specs.Length.{word_length}
use Rattle.cox_base.specs.Bruhat.{IsBelow}
use Rattle.cox_base.specs.SortedList.{IsListOf}
use Rattle.cox_base.specs.Interval.{IsBetween}
use Rattle.cox_lemmas.proofs.Ring.{times_zero, one_times, mul_assoc}
use Rattle.cox_reflect.proofs.Elements.{same-refl, same-sym}
use Rattle.cox_reflect.proofs.Search.{word_length-equal}
use Rattle.cox_reflect.proofs.Bruhat.{below-refl, below-trans, below-length, below-antisym}
use Rattle.cox_poly.specs.Coefficients.{Coefficients, zero_polynomial, one_polynomial, plus}
use Rattle.cox_poly.specs.Products.{product, flip}
use Rattle.cox_poly.specs.Multiples.{minus, scaled}
use Rattle.cox_poly.proofs.Coefficients.{flip-none, flip-plus, flip-minus}
use Rattle.cox_poly.proofs.Products.{product-zero, zero-product, one-product, product-one, product-scaled, HasDegreeAtMost-product}
use Rattle.cox_poly.proofs.FlippedProducts.{flip-product}
use Rattle.cox_rpoly.specs.RPolynomial.{r_polynomial}
use Rattle.cox_rpoly.specs.Sign.{times_sign}
use Rattle.cox_rpoly.proofs.PolynomialsOfElements.{r_polynomial-equal, r_polynomial-not_below}
use Rattle.cox_hecke.specs.Family.{Family, RespectsElements}
use Rattle.cox_hecke.specs.Sums.{sum_over, bar_sum}
use Rattle.cox_hecke.specs.Row.{IsRow, IsKazhdanLusztig}
use Rattle.cox_hecke.specs.ListedElements.{is_same, occurrences, LiesBetween}
use Rattle.cox_hecke.proofs.ListSums.{sum_over-equal, sum_over-none, sum_over-plus, sum_over-scaled, sum_over-one, flip-sum_over}
use Rattle.cox_hecke.proofs.ListSums.{same_or_not, same-is_same, is_same-same, not_same-is_same}
use Rattle.cox_hecke.proofs.ElementLists.{Tells-ListsEach, below_list, below_or_not, sorted-once}
use Rattle.cox_hecke.proofs.Balance.{bar_sum-plus}
use Rattle.cox_hecke.proofs.OneRow.{between_or_not, bar_sum-none, bar_sum-lists, row-bar, row-unique}
use Rattle.cox_hecke.proofs.PolynomialValues.{kl_polynomial, kl_polynomial-row, kl_polynomial-value}
use Rattle.cox_hecke.proofs.PolynomialValues.{kl_polynomial-same, kl_polynomial-outside}
use Rattle.cox_inverse.specs.InverseRow.{signed_term, IsInverseRow, IsInverse}
use Rattle.cox_inverse.specs.Longest.{IsLongest}
use Rattle.cox_inverse.proofs.InverseSums.{above-longer}
use Rattle.cox_inverse.proofs.OneInverseRow.{inverse_row-from}
use Rattle.cox_hecke.proofs.Signs.{sign, times_sign-scaled, sign-less}
use Rattle.cox_hecke.proofs.SumsOfProducts.{sums-exchanged, sums-exchanged_back}
use Rattle.cox_hecke.proofs.RInversion.{signed_r, signed_r-respects, signed_r-outside, r-inversion}
use Rattle.cox_hecke.proofs.AllRows.{row_of, row_of-is}
use Rattle.cox_hecke.proofs.SignedBasis.{signed_basis, signed_basis-own, signed_basis-other, signed_basis-respects, signed_basis-first}
use Rattle.cox_hecke.proofs.SignedBasis.{signed_basis-unsigned, signed_basis-flip}
use Rattle.cox_inverse.proofs.TurnedPolynomials.{NamesBelow, kl-row, kl-none, kl-one, kl-low, turned, turned-respects, turned-first}
use Rattle.cox_inverse.proofs.TurnedPolynomials.{turned-none, turned-one, signed_turned, signed_turned-respects, signed_turned-none}
use Rattle.cox_inverse.proofs.TurnedPolynomials.{signed_turned-low, signed_turned-bar, signed_back, signed_back-none}

module _ (A : IntegerMatrix) (g : IsAdmissible A) (longest : List ℕ) (is : IsLongest A longest) where
  -- ---- terms and sums

  -- P(x,z) (-1)^l(z) P(w0 w, w0 z)
  abbrev term : List ℕ → List ℕ → Family
  term w x z = product (kl_polynomial A g x z) (signed_turned A g longest w z)

  abbrev inverse_sum : List (List ℕ) → List ℕ → Family
  inverse_sum words w x = sum_over words (term w x)

  term-respects : (w x : List ℕ) → RespectsElements A (term w x)
  term-respects w x y z e k =
      ap (λ (f : Coefficients). product f (signed_turned A g longest w y) k) (kl_polynomial-same A g (same-refl A g x) e)
      ∙ ap (λ (f : Coefficients). product (kl_polynomial A g x z) f k) (λ i k. signed_turned-respects A g longest is w y z e k i)

  term-none : (w x z : List ℕ) → (IsBelow A x z → ⊥) ⊎ (IsBelow A z w → ⊥) → (k : ℕ) → term w x z k ≡ pos 0
  term-none w x z (inl n) k = rw (kl-none A g x z n) (zero-product (signed_turned A g longest w z) k)
  term-none w x z (inr n) k = rw (signed_turned-none A g longest is w z n) (product-zero (kl_polynomial A g x z) k)

  inverse_sum-respects : (words : List (List ℕ)) (w : List ℕ) → RespectsElements A (inverse_sum words w)
  inverse_sum-respects words w x y e k =
      sum_over-equal words (term w x) (term w y) k
      (λ z. ap (λ (f : Coefficients). product f (signed_turned A g longest w z) k) (kl_polynomial-same A g e (same-refl A g z)))

  -- by any word of w
  inverse_sum-first : (words : List (List ℕ)) {v w : List ℕ} (x : List ℕ) → SameElement A v w
      → (k : ℕ) → inverse_sum words v x k ≡ inverse_sum words w x k
  inverse_sum-first words {v} {w} x e k =
      sum_over-equal words (term v x) (term w x) k
      (λ z. ap (λ (f : Coefficients). product (kl_polynomial A g x z) (scaled (sign (word_length A z)) f) k)
      (turned-first A g longest is z e))

  inverse_sum-outside : (words : List (List ℕ)) (w x : List ℕ) → (IsBelow A x w → ⊥) → (k : ℕ) → inverse_sum words w x k ≡ pos 0
  inverse_sum-outside words w x n k = sum_over-none words (term w x) k (λ z. term-none w x z (apart z) k)
    where
      apart : (z : List ℕ) → (IsBelow A x z → ⊥) ⊎ (IsBelow A z w → ⊥)
      apart z = ⊎_elim (λ (b : LiesBetween A x w z). absurd (n (below-trans A g b.above b.below))) (λ c. c) (between_or_not A g x w z)

  -- ---- one w, with what is known of the shorter elements

  module _ (w : List ℕ) (words : List (List ℕ)) (once : NamesBelow A w words)
      (lower : (v : List ℕ) → IsBelow A v w → word_length A v < word_length A w
      → (x : List ℕ) (k : ℕ) → inverse_sum words v x k ≡ signed_basis A v x k) where
    -- h
    abbrev rest : Family
    rest x = minus (inverse_sum words w x) (signed_basis A w x)

    rest-respects : RespectsElements A rest
    rest-respects x y e k = omega (arith, ints, inverse_sum-respects words w x y e k, signed_basis-respects A g w x y e k)

    rest-outside : (x : List ℕ) → (IsBelow A x w → ⊥) → (k : ℕ) → rest x k ≡ pos 0
    rest-outside x n k =
        omega (
          arith,
          ints,
          inverse_sum-outside words w x n k,
          ap (λ (f : Coefficients). f k)
              (signed_basis-other A g w x (λ e. n (below-refl A g (same-sym A g e)))),
        )

    -- at w the term of w alone is not 0
    rest-top : (k : ℕ) → rest w k ≡ pos 0
    rest-top k = omega (arith, ints, sum, ap (λ (f : Coefficients). f k) (signed_basis-own A g (same-refl A g w)))
      where
        alone : (z : List ℕ) → term w w z k ≡ (if is_same A w z then term w w z else zero_polynomial) k
        alone z = go (is_same A w z) refl
          where
            go : (b : Bool) → is_same A w z ≡ b → term w w z k ≡ (if is_same A w z then term w w z else zero_polynomial) k
            go true e = rw e refl
            go false e = rw e (term-none w w z (apart (between_or_not A g w w z)) k)
              where
                apart : LiesBetween A w w z ⊎ ((IsBelow A w z → ⊥) ⊎ (IsBelow A z w → ⊥))
                    → (IsBelow A w z → ⊥) ⊎ (IsBelow A z w → ⊥)
                apart (inl b) = absurd (false≢true (sym e ∙ same-is_same A g (below-antisym A g b.above b.below)))
                apart (inr n) = n

        own : term w w w k ≡ scaled (sign (word_length A w)) one_polynomial k
        own =
            ap (λ (f : Coefficients). product f (signed_turned A g longest w w) k) (kl-one A g (same-refl A g w))
            ∙ one-product (signed_turned A g longest w w) k
            ∙ ap (λ (f : Coefficients). sign (word_length A w) *ℤ f k) (turned-one A g longest is (same-refl A g w))

        sum : inverse_sum words w w k ≡ scaled (sign (word_length A w)) one_polynomial k
        sum =
            sum_over-equal words (term w w) (λ z. if is_same A w z then term w w z else zero_polynomial) k alone
            ∙ sum_over-one A g words w (term w w) k (term-respects w w)
            ∙ rw (once w (below-refl A g (same-refl A g w))) (one_times (term w w w k)) ∙ own

    -- its degrees
    rest-low : (x : List ℕ) (k : ℕ) → word_length A x < word_length A w → word_length A w ≤ word_length A x + 2 * k → rest x k ≡ pos 0
    rest-low x k l m =
        omega (
          arith,
          ints,
          sum_over-none words (term w x) k each,
          ap (λ (f : Coefficients). f k)
              (signed_basis-other A g w x (λ e. omega (arith, l, word_length-equal A g e))),
        )
      where
        each : (z : List ℕ) → term w x z k ≡ pos 0
        each z = ⊎_elim
            (λ (b : LiesBetween A x w z). low z (below-length A g b.above) (below-length A g b.below))
            (λ n. term-none w x z n k) (between_or_not A g x w z)
          where
            low : (z : List ℕ) → word_length A x ≤ word_length A z → word_length A z ≤ word_length A w → term w x z k ≡ pos 0
            low z up down =
                HasDegreeAtMost-product (kl_polynomial A g x z) (signed_turned A g longest w z) d e
                (kl-low A g x z d (omega arith)) (signed_turned-low A g longest is w z e (omega arith)) k
                (omega (arith, l, m, up, down))
              where
                d : ℕ
                d = (word_length A z - word_length A x - 1) / 2

                e : ℕ
                e = (word_length A w - word_length A z - 1) / 2

    -- the elements y that are shorter than w give (-1)^l(x) R(x,w), at y = x
    sums : (x : List ℕ) (k : ℕ) → sum_over words (λ y. product (r_polynomial A y w) (inverse_sum words y x)) k
        ≡ signed_r A w x k +ℤ rest x k
    sums x k =
        sum_over-equal words (λ y. product (r_polynomial A y w) (inverse_sum words y x))
        (λ y. plus (if is_same A x y then signed_r A w y else zero_polynomial) (if is_same A w y then rest x else zero_polynomial)) k each
        ∙ sum_over-plus words (λ y. if is_same A x y then signed_r A w y else zero_polynomial)
        (λ y. if is_same A w y then rest x else zero_polynomial) k
        ∙ omega (arith, ints, first, second)
      where
        first : sum_over words (λ y. if is_same A x y then signed_r A w y else zero_polynomial) k ≡ signed_r A w x k
        first = sum_over-one A g words x (signed_r A w) k (signed_r-respects A g w)
            ∙ ⊎_elim (λ (b : IsBelow A x w). rw (once x b) (one_times (signed_r A w x k)))
            (λ (n : IsBelow A x w → ⊥). ap (λ (a : ℤ). pos (occurrences A x words) *ℤ a) (signed_r-outside A g w x n k)
            ∙ times_zero (pos (occurrences A x words)) ∙ sym (signed_r-outside A g w x n k))
            (below_or_not A g x w)

        second : sum_over words (λ y. if is_same A w y then rest x else zero_polynomial) k ≡ rest x k
        second =
            sum_over-one A g words w (λ y. rest x) k (λ y z e k. refl)
            ∙ rw (once w (below-refl A g (same-refl A g w))) (one_times (rest x k))

        -- R(y,w) (-1)^l(y) where x = y
        basis_term : (y : List ℕ) → product (r_polynomial A y w) (signed_basis A y x) k
            ≡ (if is_same A x y then signed_r A w y else zero_polynomial) k
        basis_term y = go (is_same A x y) refl
          where
            go : (b : Bool) → is_same A x y ≡ b → product (r_polynomial A y w) (signed_basis A y x) k
                ≡ (if is_same A x y then signed_r A w y else zero_polynomial) k
            go true e =
                rw e (ap (λ (f : Coefficients). product (r_polynomial A y w) f k)
                (signed_basis-own A g (same-sym A g (is_same-same A g x y e)))
                ∙ product-scaled (sign (word_length A y)) (r_polynomial A y w) one_polynomial k
                ∙ ap (λ (a : ℤ). sign (word_length A y) *ℤ a) (product-one (r_polynomial A y w) k))
            go false e =
                rw e (ap (λ (f : Coefficients). product (r_polynomial A y w) f k)
                (signed_basis-other A g y x (λ s. false≢true (sym e ∙ same-is_same A g (same-sym A g s))))
                ∙ product-zero (r_polynomial A y w) k)

        each : (y : List ℕ) → product (r_polynomial A y w) (inverse_sum words y x) k
            ≡ plus (if is_same A x y then signed_r A w y else zero_polynomial) (if is_same A w y then rest x else zero_polynomial) k
        each y = ⊎_elim (λ (b : IsBelow A y w). ⊎_elim at_w (shorter b) (same_or_not A g w y)) outside (below_or_not A g y w)
          where
            at_w : SameElement A w y → product (r_polynomial A y w) (inverse_sum words y x) k
                ≡ plus (if is_same A x y then signed_r A w y else zero_polynomial) (if is_same A w y then rest x else zero_polynomial) k
            at_w e =
                let one : r_polynomial A y w ≡ one_polynomial = r_polynomial-equal A g (same-sym A g e)
                in let left : product (r_polynomial A y w) (inverse_sum words y x) k ≡ inverse_sum words w x k
                = ap (λ (f : Coefficients). product f (inverse_sum words y x) k) one ∙ one-product (inverse_sum words y x) k
                ∙ inverse_sum-first words x (same-sym A g e) k
                in let right : product (r_polynomial A y w) (signed_basis A y x) k ≡ signed_basis A w x k
                = ap (λ (f : Coefficients). product f (signed_basis A y x) k) one ∙ one-product (signed_basis A y x) k
                ∙ ap (λ (f : Coefficients). f k) (signed_basis-first A g x (same-sym A g e))
                in rw (same-is_same A g e) (omega (arith, ints, left, right, basis_term y))

            shorter : IsBelow A y w → (SameElement A w y → ⊥) → product (r_polynomial A y w) (inverse_sum words y x) k
                ≡ plus (if is_same A x y then signed_r A w y else zero_polynomial) (if is_same A w y then rest x else zero_polynomial) k
            shorter b n =
                let less : word_length A y < word_length A w = above-longer A g b (λ e. n (same-sym A g e))
                in let left : product (r_polynomial A y w) (inverse_sum words y x) k ≡ product (r_polynomial A y w) (signed_basis A y x) k
                = ap (λ (f : Coefficients). product (r_polynomial A y w) f k) (λ i j. lower y b less x j i)
                in rw (not_same-is_same A g w y n) (omega (arith, ints, left, basis_term y))

            outside : (IsBelow A y w → ⊥) → product (r_polynomial A y w) (inverse_sum words y x) k
                ≡ plus (if is_same A x y then signed_r A w y else zero_polynomial) (if is_same A w y then rest x else zero_polynomial) k
            outside n =
                let none : r_polynomial A y w ≡ zero_polynomial = λ i k. r_polynomial-not_below A g y w n k i
                in let left : product (r_polynomial A y w) (inverse_sum words y x) k ≡ pos 0
                = ap (λ (f : Coefficients). product f (inverse_sum words y x) k) none ∙ zero-product (inverse_sum words y x) k
                in let right : product (r_polynomial A y w) (signed_basis A y x) k ≡ pos 0
                = ap (λ (f : Coefficients). product f (signed_basis A y x) k) none ∙ zero-product (signed_basis A y x) k
                in let apart : is_same A w y ≡ false = not_same-is_same A g w y (λ s. n (below-refl A g (same-sym A g s)))
                in rw apart (omega (arith, ints, left, right, basis_term y))

    -- a term at x, flipped in the degree l(w) - l(x)
    term-flip : (x : List ℕ) → IsBelow A x w → (z : List ℕ) (k : ℕ) → flip (word_length A w - word_length A x) (term w x z) k
        ≡ product (bar_sum A words (λ y. kl_polynomial A g y z) x) (signed_back A g longest words w z) k
    term-flip x b z k = go (between_or_not A g x w z)
      where
        nothing : flip (word_length A w - word_length A x) zero_polynomial k ≡ pos 0
        nothing = ap (λ (f : Coefficients). f k) (flip-none (word_length A w - word_length A x))

        left_out : (IsBelow A x z → ⊥) ⊎ (IsBelow A z w → ⊥)
            → product (bar_sum A words (λ y. kl_polynomial A g y z) x) (signed_back A g longest words w z) k ≡ pos 0
        left_out (inl n) =
            ap (λ (f : Coefficients). product f (signed_back A g longest words w z) k)
            (bar_sum-none A g z (λ y. kl_polynomial A g y z) (λ y m j. kl_polynomial-outside A g y z m j) words x n)
            ∙ zero-product (signed_back A g longest words w z) k
        left_out (inr n) =
            ap (λ (f : Coefficients). product (bar_sum A words (λ y. kl_polynomial A g y z) x) f k)
            (signed_back-none A g longest is w z words n)
            ∙ product-zero (bar_sum A words (λ y. kl_polynomial A g y z) x) k

        go : LiesBetween A x w z ⊎ ((IsBelow A x z → ⊥) ⊎ (IsBelow A z w → ⊥))
            → flip (word_length A w - word_length A x) (term w x z) k
            ≡ product (bar_sum A words (λ y. kl_polynomial A g y z) x) (signed_back A g longest words w z) k
        go (inl c) =
            let up = below-length A g c.above
            in let down = below-length A g c.below
            in flip-product (word_length A z - word_length A x) (word_length A w - word_length A z) (word_length A w - word_length A x)
            (kl_polynomial A g x z) (signed_turned A g longest w z) (omega (arith, up, down))
            (kl-low A g x z (word_length A z - word_length A x) (omega arith))
            (signed_turned-low A g longest is w z (word_length A w - word_length A z) (omega arith)) k
            ∙ ap (λ (f : Coefficients). product f (flip (word_length A w - word_length A z) (signed_turned A g longest w z)) k)
            (λ i j. row-bar A g z (λ y. kl_polynomial A g y z) (kl-row A g z) x words c.above
            (λ y d. once y (below-trans A g d.below c.below)) j i)
            ∙ ap (λ (f : Coefficients). product (bar_sum A words (λ y. kl_polynomial A g y z) x) f k)
            (λ i j. signed_turned-bar A g longest is w z words once c.below j i)
        go (inr n) =
            ap (λ (f : Coefficients). flip (word_length A w - word_length A x) f k) (λ i j. term-none w x z n j i)
            ∙ nothing ∙ sym (left_out n)

    -- the sums of R(x,y) h(y)
    rest-bar : (x : List ℕ) → IsBelow A x w → (k : ℕ) → flip (word_length A w - word_length A x) (rest x) k ≡ bar_sum A words rest x k
    rest-bar x b k =
        ap (λ (f : Coefficients). f k) (flip-minus (word_length A w - word_length A x) (inverse_sum words w x) (signed_basis A w x))
        ∙ omega (arith, ints, flipped_sum, signed_basis-flip A g w x k)
      where
        exchanged : (y : List ℕ) (j : ℕ)
            → sum_over words (λ z. product (kl_polynomial A g y z) (signed_back A g longest words w z)) j ≡ signed_r A w y j +ℤ rest y j
        exchanged y j =
            sums-exchanged_back words (λ v. r_polynomial A v w) (signed_turned A g longest) (kl_polynomial A g y) j ∙ sums y j

        flipped_sum : flip (word_length A w - word_length A x) (inverse_sum words w x) k
            ≡ signed_basis A w x k +ℤ bar_sum A words rest x k
        flipped_sum =
            flip-sum_over (word_length A w - word_length A x) words (term w x) k
            ∙ sum_over-equal words (λ z. flip (word_length A w - word_length A x) (term w x z))
            (λ z. product (bar_sum A words (λ y. kl_polynomial A g y z) x) (signed_back A g longest words w z)) k (λ z. term-flip x b z k)
            ∙ sums-exchanged words (r_polynomial A x) (λ y z. kl_polynomial A g y z) (signed_back A g longest words w) k
            ∙ ap (λ (h : Family). bar_sum A words h x k) (λ i y j. exchanged y j i)
            ∙ ap (λ (f : Coefficients). f k) (bar_sum-plus A words (signed_r A w) rest x)
            ∙ (λ i. r-inversion A g w words once x k i +ℤ bar_sum A words rest x k)

    -- so it can be added to the row of w
    row_and_rest : IsRow A w (λ x. plus (kl_polynomial A g x w) (rest x))
    row_and_rest = record {
      element = λ x y e k. omega (arith, ints, (kl-row A g w).element x y e k, rest-respects x y e k);
      outside = λ x n k. omega (arith, ints, kl_polynomial-outside A g x w n k, rest-outside x n k);
      top = λ k. omega (arith, ints, (kl-row A g w).top k, rest-top k);
      degree = λ x k l m. omega (arith, ints, (kl-row A g w).degree x k l m, rest-low x k l m);
      bar = bar;
    }
      where
        bar : (x : List ℕ) (between : List (List ℕ)) → IsBelow A x w → IsListOf (IsBetween A x w) between
            → (k : ℕ) → flip (word_length A w - word_length A x) (plus (kl_polynomial A g x w) (rest x)) k
            ≡ bar_sum A between (λ x. plus (kl_polynomial A g x w) (rest x)) x k
        bar x between b are k =
            ap (λ (f : Coefficients). f k) (flip-plus (word_length A w - word_length A x) (kl_polynomial A g x w) (rest x))
            ∙ omega (
              arith,
              ints,
              (kl-row A g w).bar x between b are k,
              rest-bar x b k,
              bar_sum-lists A g w rest rest-outside rest-respects x
                  words between (λ y c. once y c.below)
                  (sorted-once A g x w between are) k,
              ap (λ (f : Coefficients). f k)
                  (bar_sum-plus A between (λ x. kl_polynomial A g x w)
                  rest x),
            )

    inverse_sum-step : (x : List ℕ) (k : ℕ) → inverse_sum words w x k ≡ signed_basis A w x k
    inverse_sum-step x k =
        let same : kl_polynomial A g x w k +ℤ rest x k ≡ kl_polynomial A g x w k
        = row-unique A g w (λ x. plus (kl_polynomial A g x w) (rest x)) (λ x. kl_polynomial A g x w) row_and_rest (kl-row A g w) x k
        in omega (arith, ints, same)

  -- ---- every w

  inverse_sums : (n : ℕ) (w : List ℕ) → word_length A w < n → (words : List (List ℕ)) → NamesBelow A w words
      → (x : List ℕ) (k : ℕ) → inverse_sum words w x k ≡ signed_basis A w x k
  inverse_sums zero w l words once = absurd (omega (arith, l))
  inverse_sums (suc n) w l words once =
      inverse_sum-step w words once
      (λ v b shorter. inverse_sums n v (omega (arith, l, shorter)) words (λ y c. once y (below-trans A g c b)))

  -- with the signs of inverse rows
  signs : (w x z : List ℕ) (k : ℕ)
      → signed_term A (row_of A g) (turned A g longest w) x z k ≡ scaled (sign (word_length A x)) (term w x z) k
  signs w x z k =
      ap (λ (f : Coefficients). times_sign (word_length A z - word_length A x) (product f (turned A g longest w z)) k)
      (sym (kl_polynomial-row A g x z (row_of A g z) (row_of-is A g z)))
      ∙ times_sign-scaled (word_length A z - word_length A x) (product (kl_polynomial A g x z) (turned A g longest w z)) k
      ∙ ⊎_elim above apart (below_or_not A g x z)
    where
      above : IsBelow A x z → sign (word_length A z - word_length A x) *ℤ product (kl_polynomial A g x z) (turned A g longest w z) k
          ≡ sign (word_length A x) *ℤ term w x z k
      above b =
          ap (λ (c : ℤ). c *ℤ product (kl_polynomial A g x z) (turned A g longest w z) k)
          (sign-less (word_length A x) (word_length A z) (below-length A g b))
          ∙ mul_assoc (sign (word_length A x)) (sign (word_length A z)) (product (kl_polynomial A g x z) (turned A g longest w z) k)
          ∙ ap (λ (a : ℤ). sign (word_length A x) *ℤ a)
          (sym (product-scaled (sign (word_length A z)) (kl_polynomial A g x z) (turned A g longest w z) k))

      apart : (IsBelow A x z → ⊥) → sign (word_length A z - word_length A x) *ℤ product (kl_polynomial A g x z) (turned A g longest w z) k
          ≡ sign (word_length A x) *ℤ term w x z k
      apart n =
          ap (λ (a : ℤ). sign (word_length A z - word_length A x) *ℤ a)
          (ap (λ (f : Coefficients). product f (turned A g longest w z) k) (kl-none A g x z n) ∙ zero-product (turned A g longest w z) k)
          ∙ times_zero (sign (word_length A z - word_length A x))
          ∙ sym (ap (λ (a : ℤ). sign (word_length A x) *ℤ a) (term-none w x z (inl n) k) ∙ times_zero (sign (word_length A x)))

  -- the inverse row of w
  pub turned-inverse_row : (w : List ℕ) → IsInverseRow A w (turned A g longest w)
  turned-inverse_row w =
      inverse_row-from A g w (turned A g longest w) words (turned-respects A g longest is w)
      (λ x n k. ap (λ (f : Coefficients). f k) (turned-none A g longest is w x n)) once
      (λ x b k. sum_over-equal words (signed_term A (row_of A g) (turned A g longest w) x)
      (λ z. scaled (sign (word_length A x)) (term w x z)) k
      (λ z. signs w x z k)
      ∙ sum_over-scaled words (sign (word_length A x)) (term w x) k
      ∙ ap (λ (a : ℤ). sign (word_length A x) *ℤ a) (inverse_sums (suc (word_length A w)) w (omega arith) words once x k)
      ∙ signed_basis-unsigned A g w x k)
    where
      words : List (List ℕ)
      words = (below_list A g w).0

      once : NamesBelow A w words
      once = (Tells-ListsEach A (λ y. IsBelow A y w) (below_list A g w).0 (below_list A g w).1).once

  -- P(w0 w, w0 x) is Q(x,w)
  pub inversion-longest : (x w : List ℕ) (f : Coefficients) → IsKazhdanLusztig A (longest ++ w) (longest ++ x) f → IsInverse A x w f
  inversion-longest x w f c = record {
    row = turned A g longest w;
    is = turned-inverse_row w;
    at = λ k. ap (λ (h : Coefficients). h k) (kl_polynomial-value A g (longest ++ w) (longest ++ x) f c);
  }
