-- Bar by R-polynomials: turned round in degree n - l(x), the coefficient at x of q^n times bar of h is the sum of the R(x,y) h(y). So the
-- last condition of a row of w says that q^l(w) times bar of the row is the row.
use Rattle.std.proofs.Common.{◌≡◌, ℕ, ◌+◌, ◌-◌, ◌*◌, ◌≤◌, ◌<◌, List, ⊎_elim, pos, ap, sym, ◌∙◌, arith}
use Rattle.std.proofs.lemmas.Bool.{cases_lt}
use Rattle.cox_base.specs.IntegerMatrix.{IntegerMatrix}
use Rattle.cox_base.specs.Admissible.{IsAdmissible}
use Rattle.cox_base.specs.ShortLex.{normal_form}
use Rattle.cox_base.specs.Length.{word_length}
use Rattle.cox_base.specs.Bruhat.{IsBelow}
use Rattle.cox_reflect.proofs.Bruhat.{below-length}
use Rattle.cox_poly.specs.Coefficients.{Coefficients, zero_polynomial, one_polynomial}
use Rattle.cox_poly.specs.Products.{product, flip}
use Rattle.cox_poly.specs.Size.{HasDegreeAtMost}
use Rattle.cox_poly.proofs.Coefficients.{flip_at, flip_above, flip-none}
use Rattle.cox_poly.proofs.Products.{product_of_none, product-zero, HasDegreeAtMost-product}
use Rattle.cox_poly.proofs.FlippedProducts.{flip-product}
use Rattle.cox_rpoly.specs.RPolynomial.{r_polynomial}
use Rattle.cox_rpoly.specs.InverseOperators.{left_inverse_word, unit}
use Rattle.cox_rpoly.specs.Sign.{times_sign}
use Rattle.cox_rpoly.proofs.Signs.{times_sign-none, times_sign-twice}
use Rattle.cox_rpoly.proofs.PolynomialsOfElements.{r_polynomial-not_below, r_polynomial-degree}
use Rattle.cox_hecke.specs.Bar.{IsCombination, bar}
use Rattle.cox_hecke.specs.Family.{Family}
use Rattle.cox_hecke.specs.ListedElements.{ListsEach}
use Rattle.cox_hecke.specs.Row.{IsRow}
use Rattle.cox_hecke.specs.Sums.{bar_sum}
use Rattle.cox_hecke.proofs.ElementLists.{below_or_not, sorted-once}
use Rattle.cox_hecke.proofs.ListSums.{sum_over-equal, flip-sum_over, sum_over-degree}
use Rattle.cox_hecke.proofs.OneRow.{row-bar, row-long, bar_sum-lists, bar_sum-none}
use Rattle.cox_hecke.proofs.TurnedR.{r-turned}

-- turned round twice
pub flip-twice : (n : ℕ) (f : Coefficients) → HasDegreeAtMost f n → (k : ℕ) → flip n (flip n f) k ≡ f k
flip-twice n f low k = ⊎_elim
    (λ (l : n < k). flip_above (flip n f) n k l ∙ sym (low k l))
    (λ (l : k ≤ n). flip_at (flip n f) n k (n - k) (omega arith) ∙ flip_at f n (n - k) k (omega arith))
    (cases_lt n k)

module _ (A : IntegerMatrix) (g : IsAdmissible A) where
  -- the coefficient of T(x) in q^l(y) T(y^-1)^-1 is R(x,y) with the sign of l(y) - l(x)
  pub coefficient-signed : (x y : List ℕ) (k : ℕ)
      → left_inverse_word A (normal_form A y) (unit A) x k ≡ times_sign (word_length A y - word_length A x) (r_polynomial A x y) k
  unfolding r_polynomial
  coefficient-signed x y k =
      sym (times_sign-twice (word_length A y - word_length A x) (left_inverse_word A (normal_form A y) (unit A) x) k)

  pub coefficient-none : (x y : List ℕ) → (IsBelow A x y → ⊥) → (k : ℕ) → left_inverse_word A (normal_form A y) (unit A) x k ≡ pos 0
  coefficient-none x y n k =
      coefficient-signed x y k
      ∙ ap (λ (f : Coefficients). times_sign (word_length A y - word_length A x) f k) (λ i j. r_polynomial-not_below A g x y n j i)
      ∙ times_sign-none (word_length A y - word_length A x) k

  coefficient-turned : (x y : List ℕ) → IsBelow A x y
      → flip (word_length A y - word_length A x) (r_polynomial A x y) ≡ left_inverse_word A (normal_form A y) (unit A) x
  coefficient-turned x y b =
      λ i k. (r-turned A g x y (word_length A y - word_length A x) (omega (arith, below-length A g b)) k ∙ sym (coefficient-signed x y k)) i

  module _ (n : ℕ) (w : List ℕ) (h : Family) (c : IsCombination A n w h) where
    pub long-none : (y : List ℕ) → n < word_length A y → h y ≡ zero_polynomial
    long-none y l = λ i k. c.degree y k (omega (arith, l)) i

    pub low : (y : List ℕ) → HasDegreeAtMost (h y) (n - word_length A y)
    low y k l = c.degree y k (omega (arith, l))

    -- the degree of R(x,y) h(y) is at most n - l(x), and turned round in that degree it is the term of y in bar
    term-degree : (x y : List ℕ) → HasDegreeAtMost (product (r_polynomial A x y) (h y)) (n - word_length A x)
    term-degree x y k l = ⊎_elim
        (λ (b : IsBelow A x y). ⊎_elim
        (λ (long : n < word_length A y). ap (λ (f : Coefficients). product (r_polynomial A x y) f k) (long-none y long)
        ∙ product-zero (r_polynomial A x y) k)
        (λ (short : word_length A y ≤ n). HasDegreeAtMost-product (r_polynomial A x y) (h y) (word_length A y - word_length A x)
        (n - word_length A y) (r_polynomial-degree A g x y (word_length A y - word_length A x) (omega arith)) (low y) k
        (omega (arith, l, short, below-length A g b)))
        (cases_lt n (word_length A y)))
        (λ none. product_of_none (r_polynomial A x y) (h y) (r_polynomial-not_below A g x y none) k)
        (below_or_not A g x y)

    term-turned : (x y : List ℕ) (k : ℕ)
        → product (left_inverse_word A (normal_form A y) (unit A) x) (flip (n - word_length A y) (h y)) k
        ≡ flip (n - word_length A x) (product (r_polynomial A x y) (h y)) k
    term-turned x y k = ⊎_elim
        (λ (b : IsBelow A x y). ⊎_elim
        (λ (long : n < word_length A y).
        ap (λ (f : Coefficients). product (left_inverse_word A (normal_form A y) (unit A) x) f k)
        (ap (flip (n - word_length A y)) (long-none y long) ∙ flip-none (n - word_length A y))
        ∙ product-zero (left_inverse_word A (normal_form A y) (unit A) x) k
        ∙ nothing (λ j. ap (λ (f : Coefficients). product (r_polynomial A x y) f j) (long-none y long)
        ∙ product-zero (r_polynomial A x y) j))
        (λ (short : word_length A y ≤ n).
        ap (λ (f : Coefficients). product f (flip (n - word_length A y) (h y)) k) (sym (coefficient-turned x y b))
        ∙ sym (flip-product (word_length A y - word_length A x) (n - word_length A y) (n - word_length A x) (r_polynomial A x y) (h y)
        (omega (arith, short, below-length A g b))
        (r_polynomial-degree A g x y (word_length A y - word_length A x) (omega arith)) (low y) k))
        (cases_lt n (word_length A y)))
        (λ none. product_of_none (left_inverse_word A (normal_form A y) (unit A) x) (flip (n - word_length A y) (h y))
        (coefficient-none x y none) k
        ∙ nothing (product_of_none (r_polynomial A x y) (h y) (r_polynomial-not_below A g x y none)))
        (below_or_not A g x y)
      where
        nothing : ((j : ℕ) → product (r_polynomial A x y) (h y) j ≡ pos 0)
            → pos 0 ≡ flip (n - word_length A x) (product (r_polynomial A x y) (h y)) k
        nothing e =
            sym (ap (λ (f : Coefficients). flip (n - word_length A x) f k) (λ i j. e j i)
            ∙ ap (λ (f : Coefficients). f k) (flip-none (n - word_length A x)))

    pub bar-turned : (words : List (List ℕ)) (x : List ℕ) (k : ℕ)
        → bar A n words h x k ≡ flip (n - word_length A x) (bar_sum A words h x) k
    bar-turned words x k =
        sum_over-equal words
        (λ y. product (left_inverse_word A (normal_form A y) (unit A) x) (flip (n - word_length A y) (h y)))
        (λ y. flip (n - word_length A x) (product (r_polynomial A x y) (h y))) k (λ y. term-turned x y k)
        ∙ sym (flip-sum_over (n - word_length A x) words (λ y. product (r_polynomial A x y) (h y)) k)

    pub sums-degree : (words : List (List ℕ)) (x : List ℕ) → HasDegreeAtMost (bar_sum A words h x) (n - word_length A x)
    sums-degree words x =
        sum_over-degree words (λ y. product (r_polynomial A x y) (h y)) (n - word_length A x) (term-degree x)

  -- ---- rows

  pub row-combination : (w : List ℕ) (p : Family) → IsRow A w p → IsCombination A (word_length A w) w p
  row-combination w p row = record {
    element = row.element;
    outside = row.outside;
    degree = λ x k above. ⊎_elim
        (λ (l : word_length A x < word_length A w). row.degree x k l (omega (arith, above)))
        (λ (l : word_length A w ≤ word_length A x). ⊎_elim
        (λ (some : 0 < k). row-long A g w p row x l k some)
        (λ (none : k ≤ 0). row.outside x (λ b. omega (arith, above, none, below-length A g b)) k)
        (cases_lt 0 k))
        (cases_lt (word_length A x) (word_length A w));
  }

  pub row-fixed : (w : List ℕ) (p : Family) → IsRow A w p → (words : List (List ℕ)) → ListsEach A (λ y. IsBelow A y w) words
      → (x : List ℕ) (k : ℕ) → bar A (word_length A w) words p x k ≡ p x k
  row-fixed w p row words each x k =
      bar-turned (word_length A w) w p (row-combination w p row) words x k
      ∙ ⊎_elim
      (λ (b : IsBelow A x w).
      ap (λ (f : Coefficients). flip (word_length A w - word_length A x) f k)
      (λ i j. sym (row-bar A g w p row x words b (λ y between. each.once y between.below) j) i)
      ∙ flip-twice (word_length A w - word_length A x) (p x) (low (word_length A w) w p (row-combination w p row) x) k)
      (λ (n : IsBelow A x w → ⊥).
      ap (λ (f : Coefficients). flip (word_length A w - word_length A x) f k) (bar_sum-none A g w p row.outside words x n)
      ∙ ap (λ (f : Coefficients). f k) (flip-none (word_length A w - word_length A x)) ∙ sym (row.outside x n k))
      (below_or_not A g x w)

  pub fixed-row : (w : List ℕ) (p : Family) → IsCombination A (word_length A w) w p → ((k : ℕ) → p w k ≡ one_polynomial k)
      → ((x : List ℕ) (k : ℕ) → word_length A x < word_length A w → word_length A w ≤ word_length A x + 2 * k → p x k ≡ pos 0)
      → (words : List (List ℕ)) → ListsEach A (λ y. IsBelow A y w) words
      → ((x : List ℕ) (k : ℕ) → bar A (word_length A w) words p x k ≡ p x k) → IsRow A w p
  fixed-row w p c top small words each same = record {
    element = c.element;
    outside = c.outside;
    top = top;
    degree = λ x k l m. small x k l m;
    bar = λ x between b list k.
        ap (λ (f : Coefficients). flip (word_length A w - word_length A x) f k)
        (λ i j. (sym (same x j) ∙ bar-turned (word_length A w) w p c words x j) i)
        ∙ flip-twice (word_length A w - word_length A x) (bar_sum A words p x) (sums-degree (word_length A w) w p c words x) k
        ∙ bar_sum-lists A g w p c.outside c.element x words between (λ y lies. each.once y lies.below) (sorted-once A g x w between list) k;
  }
