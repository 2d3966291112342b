-- The polynomials P(w0 w, w0 z), for the longest element w0: where they are 0 and 1, their degrees, and what the row of w0 z says of them.
use Rattle.std.proofs.Common.{◌≡◌, ℕ, ◌+◌, ◌-◌, ◌*◌, ◌≤◌, ◌<◌, List, [], ◌∷◌, ◌++◌, map}
use Rattle.std.proofs.Common.{⊎_elim, ℤ, pos, ◌*ℤ◌, refl, ap, sym, ◌∙◌, arith}
use Rattle.std.proofs.lemmas.Int.{ints}
use Rattle.std.proofs.lemmas.Bool.{cases_lt}
use Rattle.cox_base.specs.IntegerMatrix.{IntegerMatrix}
use Rattle.cox_base.specs.Admissible.{IsAdmissible}
use Rattle.cox_base.specs.Element.{SameElement}
use Rattle.cox_base.specs.Length.{word_length}
use Rattle.cox_base.specs.Bruhat.{IsBelow}
use Rattle.cox_lemmas.proofs.Ring.{times_zero}
use Rattle.cox_reflect.proofs.Elements.{same-refl, same-sym, same-trans}
use Rattle.cox_reflect.proofs.Search.{word_length-equal}
use Rattle.cox_reflect.proofs.Bruhat.{below-same, below-trans}
use Rattle.cox_poly.specs.Coefficients.{Coefficients, zero_polynomial, one_polynomial}
use Rattle.cox_poly.specs.Products.{product, flip}
use Rattle.cox_poly.specs.Multiples.{scaled}
use Rattle.cox_poly.specs.Size.{HasDegreeAtMost}
use Rattle.cox_poly.proofs.Coefficients.{flip-scaled}
use Rattle.cox_poly.proofs.Products.{product-zero, zero-product, product-scaled}
use Rattle.cox_rpoly.specs.RPolynomial.{r_polynomial}
use Rattle.cox_rpoly.proofs.PolynomialsOfElements.{r_polynomial-not_below}
use Rattle.cox_hecke.specs.Family.{Family, RespectsElements}
use Rattle.cox_hecke.specs.Sums.{sum_over, bar_sum}
use Rattle.cox_hecke.specs.Row.{IsRow}
use Rattle.cox_hecke.specs.ListedElements.{is_same, occurrences, LiesBetween}
use Rattle.cox_hecke.proofs.ListSums.{sum_over-equal, sum_over-none, sum_over-scaled}
use Rattle.cox_hecke.proofs.ListSums.{same_or_not, same-is_same, not_same-is_same}
use Rattle.cox_hecke.proofs.ElementLists.{below_or_not}
use Rattle.cox_hecke.proofs.OneRow.{row-bar, row-long}
use Rattle.cox_hecke.proofs.PolynomialValues.{kl_polynomial, kl_polynomial-is_row}
use Rattle.cox_hecke.proofs.PolynomialValues.{kl_polynomial-same, kl_polynomial-outside}
use Rattle.cox_inverse.specs.Longest.{IsLongest}
use Rattle.cox_hecke.proofs.Signs.{sign}
use Rattle.cox_inverse.proofs.LongestWord.{longest-length, turned-back, turned-same}
use Rattle.cox_inverse.proofs.TurnedAround.{turned-below, below-turned, turned-r}

-- the words name each element below w once
abbrev pub NamesBelow : IntegerMatrix → List ℕ → List (List ℕ) → Type 0
NamesBelow A w words = (y : List ℕ) → IsBelow A y w → occurrences A y words ≡ 1

-- P(w0 w, w0 z)
abbrev pub turned : (A : IntegerMatrix) → IsAdmissible A → List ℕ → List ℕ → Family
turned A g longest w z = kl_polynomial A g (longest ++ w) (longest ++ z)

-- (-1)^l(z) P(w0 w, w0 z)
abbrev pub signed_turned : (A : IntegerMatrix) → IsAdmissible A → List ℕ → List ℕ → Family
signed_turned A g longest w z = scaled (sign (word_length A z)) (turned A g longest w z)

-- the sum of R(y,w) (-1)^l(z) P(w0 y, w0 z)
abbrev pub signed_back : (A : IntegerMatrix) → IsAdmissible A → List ℕ → List (List ℕ) → List ℕ → Family
signed_back A g longest words w z = sum_over words (λ y. product (r_polynomial A y w) (signed_turned A g longest y z))

module _ (A : IntegerMatrix) (g : IsAdmissible A) where
  -- ---- P(x,z)

  -- for each z a row; 0 unless x ≤ z, and 1 where they are equal
  pub kl-row : (z : List ℕ) → IsRow A z (λ x. kl_polynomial A g x z)
  kl-row z = kl_polynomial-is_row A g z

  pub kl-none : (x z : List ℕ) → (IsBelow A x z → ⊥) → kl_polynomial A g x z ≡ zero_polynomial
  kl-none x z n = λ i k. kl_polynomial-outside A g x z n k i

  pub kl-one : {x z : List ℕ} → SameElement A x z → kl_polynomial A g x z ≡ one_polynomial
  kl-one {x} {z} e = kl_polynomial-same A g e (same-refl A g z) ∙ (λ i k. (kl-row z).top k i)

  -- its degree is below (l(z) - l(x)) / 2, or it is constant
  pub kl-low : (x z : List ℕ) (n : ℕ) → word_length A z ≤ word_length A x + 2 * n + 2 → HasDegreeAtMost (kl_polynomial A g x z) n
  kl-low x z n near k above = ⊎_elim
      (λ (l : word_length A x < word_length A z). (kl-row z).degree x k l (omega (arith, near, above)))
      (λ (l : word_length A z ≤ word_length A x). row-long A g z (λ x. kl_polynomial A g x z) (kl-row z) x l k (omega (arith, above)))
      (cases_lt (word_length A x) (word_length A z))

  module _ (longest : List ℕ) (is : IsLongest A longest) where
    -- by any word of z
    pub turned-respects : (w : List ℕ) → RespectsElements A (turned A g longest w)
    turned-respects w x y e k =
        ap (λ (f : Coefficients). f k) (kl_polynomial-same A g (same-refl A g (longest ++ w)) (turned-same A g longest is e))

    -- by any word of w
    pub turned-first : {v w : List ℕ} (z : List ℕ) → SameElement A v w → turned A g longest v z ≡ turned A g longest w z
    turned-first z e = kl_polynomial-same A g (turned-same A g longest is e) (same-refl A g (longest ++ z))

    -- 0 unless z ≤ w, and 1 where they are equal
    pub turned-none : (w z : List ℕ) → (IsBelow A z w → ⊥) → turned A g longest w z ≡ zero_polynomial
    turned-none w z n = kl-none (longest ++ w) (longest ++ z) (λ b. n (below-turned A g longest is z w b))

    pub turned-one : {w z : List ℕ} → SameElement A w z → turned A g longest w z ≡ one_polynomial
    turned-one e = kl-one (turned-same A g longest is e)

    -- its degree is below (l(w) - l(z)) / 2, or it is constant
    pub turned-low : (w z : List ℕ) (n : ℕ) → word_length A w ≤ word_length A z + 2 * n + 2 → HasDegreeAtMost (turned A g longest w z) n
    turned-low w z n near =
        kl-low (longest ++ w) (longest ++ z) n (omega (arith, near, longest-length A g longest is w, longest-length A g longest is z))

    -- ---- the row of w0 z

    is_same-turned : (x y : List ℕ) → is_same A x (longest ++ y) ≡ is_same A (longest ++ x) y
    is_same-turned x y = ⊎_elim
        (λ (e : SameElement A x (longest ++ y)). same-is_same A g e
        ∙ sym (same-is_same A g (same-trans A g (turned-same A g longest is e) (turned-back A g longest is y))))
        (λ (n : SameElement A x (longest ++ y) → ⊥). not_same-is_same A g x (longest ++ y) n
        ∙ sym (not_same-is_same A g (longest ++ x) y
        (λ e. n (same-trans A g (same-sym A g (turned-back A g longest is x)) (turned-same A g longest is e)))))
        (same_or_not A g x (longest ++ y))

    occurrences-turned : (x : List ℕ) (words : List (List ℕ))
        → occurrences A x (map (λ u. longest ++ u) words) ≡ occurrences A (longest ++ x) words
    occurrences-turned x [] = refl
    occurrences-turned x (y ∷ words) = rw (is_same-turned x y, occurrences-turned x words) refl

    sums-turned : (w z : List ℕ) (words : List (List ℕ)) (k : ℕ)
        → bar_sum A (map (λ u. longest ++ u) words) (λ y. kl_polynomial A g y (longest ++ z)) (longest ++ w) k
        ≡ sum_over words (λ y. product (r_polynomial A y w) (turned A g longest y z)) k
    sums-turned w z [] k = refl
    sums-turned w z (y ∷ words) k =
        omega (
          arith,
          ints,
          sums-turned w z words k,
          ap (λ (f : Coefficients). product f (turned A g longest y z) k)
              (turned-r A g longest is y w),
        )

    -- the condition of rows, at w0 w
    pub turned-bar : (w z : List ℕ) (words : List (List ℕ)) → NamesBelow A w words → IsBelow A z w → (k : ℕ)
        → flip (word_length A w - word_length A z) (turned A g longest w z) k
        ≡ sum_over words (λ y. product (r_polynomial A y w) (turned A g longest y z)) k
    turned-bar w z words once b k =
        ap (λ (d : ℕ). flip d (turned A g longest w z) k) difference
        ∙ row-bar A g (longest ++ z) (λ x. kl_polynomial A g x (longest ++ z)) (kl-row (longest ++ z)) (longest ++ w)
        (map (λ u. longest ++ u) words) (turned-below A g longest is z w b) between k
        ∙ sums-turned w z words k
      where
        difference : word_length A w - word_length A z ≡ word_length A (longest ++ z) - word_length A (longest ++ w)
        difference = omega (arith, longest-length A g longest is w, longest-length A g longest is z)

        between : (y : List ℕ) → LiesBetween A (longest ++ w) (longest ++ z) y → occurrences A y (map (λ u. longest ++ u) words) ≡ 1
        between y c =
            occurrences-turned y words
            ∙ once (longest ++ y)
            (below-same A g (same-refl A g (longest ++ y)) (turned-back A g longest is w)
            (turned-below A g longest is (longest ++ w) y c.above))

    -- ---- with signs

    -- by any word of z; 0 unless z ≤ w; its degree; the condition of rows
    pub signed_turned-respects : (w : List ℕ) → RespectsElements A (signed_turned A g longest w)
    signed_turned-respects w x y e k =
        rw (word_length-equal A g e) (ap (λ (a : ℤ). sign (word_length A y) *ℤ a) (turned-respects w x y e k))

    pub signed_turned-none : (w z : List ℕ) → (IsBelow A z w → ⊥) → signed_turned A g longest w z ≡ zero_polynomial
    signed_turned-none w z n =
        ap (scaled (sign (word_length A z))) (turned-none w z n) ∙ (λ i k. times_zero (sign (word_length A z)) i)

    pub signed_turned-low : (w z : List ℕ) (n : ℕ) → word_length A w ≤ word_length A z + 2 * n + 2
        → HasDegreeAtMost (signed_turned A g longest w z) n
    signed_turned-low w z n near k above =
        ap (λ (a : ℤ). sign (word_length A z) *ℤ a) (turned-low w z n near k above) ∙ times_zero (sign (word_length A z))

    pub signed_turned-bar : (w z : List ℕ) (words : List (List ℕ)) → NamesBelow A w words → IsBelow A z w → (k : ℕ)
        → flip (word_length A w - word_length A z) (signed_turned A g longest w z) k ≡ signed_back A g longest words w z k
    signed_turned-bar w z words once b k =
        flip-scaled (word_length A w - word_length A z) (sign (word_length A z)) (turned A g longest w z) k
        ∙ ap (λ (a : ℤ). sign (word_length A z) *ℤ a) (turned-bar w z words once b k)
        ∙ sym (sum_over-equal words (λ y. product (r_polynomial A y w) (signed_turned A g longest y z))
        (λ y. scaled (sign (word_length A z)) (product (r_polynomial A y w) (turned A g longest y z))) k
        (λ y. product-scaled (sign (word_length A z)) (r_polynomial A y w) (turned A g longest y z) k)
        ∙ sum_over-scaled words (sign (word_length A z)) (λ y. product (r_polynomial A y w) (turned A g longest y z)) k)

    -- the sum in it is 0 unless z ≤ w
    pub signed_back-none : (w z : List ℕ) (words : List (List ℕ)) → (IsBelow A z w → ⊥)
        → signed_back A g longest words w z ≡ zero_polynomial
    signed_back-none w z words n = λ i k. sum_over-none words (λ y. product (r_polynomial A y w) (signed_turned A g longest y z)) k
        (term k) i
      where
        term : (k : ℕ) (y : List ℕ) → product (r_polynomial A y w) (signed_turned A g longest y z) k ≡ pos 0
        term k y = ⊎_elim
            (λ (b : IsBelow A y w). rw (signed_turned-none y z (λ c. n (below-trans A g c b))) (product-zero (r_polynomial A y w) k))
            (λ (m : IsBelow A y w → ⊥). let none : r_polynomial A y w ≡ zero_polynomial = λ i k. r_polynomial-not_below A g y w m k i
            in rw none (zero-product (signed_turned A g longest y z) k))
            (below_or_not A g y w)
