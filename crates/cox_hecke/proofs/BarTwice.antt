-- Bar is its own inverse. The sums of R(x,y) times the coefficients of T(z^-1)^-1 at y are 1 at x = z, and else 0, by the inversion of R.
use Rattle.std.proofs.Common.{◌≡◌, ℕ, ◌-◌, ◌≤◌, ◌<◌, if◌then◌else◌, List, ⊎_elim, pos, ◌*ℤ◌, refl, ap, sym, ◌∙◌, arith}
use Rattle.std.proofs.lemmas.Bool.{cases_lt}
use Rattle.cox_base.specs.IntegerMatrix.{IntegerMatrix}
use Rattle.cox_base.specs.Admissible.{IsAdmissible}
use Rattle.cox_base.specs.Element.{SameElement}
use Rattle.cox_base.specs.ShortLex.{normal_form}
use Rattle.cox_base.specs.Length.{word_length}
use Rattle.cox_base.specs.Bruhat.{IsBelow}
use Rattle.cox_lemmas.proofs.Ring.{mul_assoc, mul_left_comm, times_zero, one_times, zero_times}
use Rattle.cox_reflect.proofs.Elements.{same-refl, same-sym}
use Rattle.cox_reflect.proofs.Search.{word_length-equal}
use Rattle.cox_reflect.proofs.Bruhat.{below-length, below-trans}
use Rattle.cox_poly.specs.Coefficients.{Coefficients, zero_polynomial}
use Rattle.cox_poly.specs.Products.{product, flip}
use Rattle.cox_poly.specs.Multiples.{scaled}
use Rattle.cox_poly.proofs.Coefficients.{flip_above, flip-none}
use Rattle.cox_poly.proofs.Products.{product_of_none, product-zero, zero-product, one-product}
use Rattle.cox_rpoly.specs.RPolynomial.{r_polynomial}
use Rattle.cox_rpoly.specs.InverseOperators.{left_inverse_word, unit}
use Rattle.cox_rpoly.proofs.PolynomialsOfElements.{r_polynomial-same, r_polynomial-not_below}
use Rattle.cox_hecke.specs.Bar.{IsCombination, bar}
use Rattle.cox_hecke.specs.Family.{Family, RespectsElements}
use Rattle.cox_hecke.specs.ListedElements.{ListsEach, is_same, occurrences}
use Rattle.cox_hecke.specs.Operators.{basis}
use Rattle.cox_hecke.specs.Sums.{bar_sum, sum_over}
use Rattle.cox_hecke.proofs.Balance.{bar_sum-scaled}
use Rattle.cox_hecke.proofs.BarOperator.{flip-twice, coefficient-signed, coefficient-none, long-none, low, bar-turned}
use Rattle.cox_hecke.proofs.BasisElements.{basis-own, basis-other}
use Rattle.cox_hecke.proofs.ElementLists.{below_or_not}
use Rattle.cox_hecke.proofs.ListSums.{sum_over-equal, sum_over-none, sum_over-named, sum_over-one}
use Rattle.cox_hecke.proofs.ListSums.{same_or_not, same-is_same, not_same-is_same}
use Rattle.cox_hecke.proofs.OneRow.{bar_sum-none}
use Rattle.cox_hecke.proofs.RInversion.{signed_r, r-inversion, signed_r-outside}
use Rattle.cox_hecke.proofs.Signs.{sign, sign-twice, sign-less, times_sign-scaled}
use Rattle.cox_hecke.proofs.SumsOfProducts.{sums-exchanged}

module _ (A : IntegerMatrix) (g : IsAdmissible A) where
  -- the coefficients of T(z^-1)^-1 by those of the inversion of R
  coefficient-scaled : (z y : List ℕ)
      → left_inverse_word A (normal_form A z) (unit A) y ≡ scaled (sign (word_length A z)) (signed_r A z y)
  coefficient-scaled z y = λ i k. ⊎_elim (here k)
      (λ (n : IsBelow A y z → ⊥). coefficient-none A g y z n k ∙ sym (times_zero (sign (word_length A z)))
      ∙ ap (λ a. sign (word_length A z) *ℤ a) (sym (signed_r-outside A g z y n k)))
      (below_or_not A g y z) i
    where
      here : (k : ℕ) → IsBelow A y z
          → left_inverse_word A (normal_form A z) (unit A) y k ≡ scaled (sign (word_length A z)) (signed_r A z y) k
      here k b =
          coefficient-signed A g y z k
          ∙ times_sign-scaled (word_length A z - word_length A y) (r_polynomial A y z) k
          ∙ ap (λ a. a *ℤ r_polynomial A y z k) (sign-less (word_length A y) (word_length A z) (below-length A g b))
          ∙ mul_assoc (sign (word_length A y)) (sign (word_length A z)) (r_polynomial A y z k)
          ∙ mul_left_comm (sign (word_length A y)) (sign (word_length A z)) (r_polynomial A y z k)

  module _ (n : ℕ) (w : List ℕ) (h : Family) (c : IsCombination A n w h) (words : List (List ℕ))
      (each : ListsEach A (λ y. IsBelow A y w) words) where
    sums-respect : (x y : List ℕ) → SameElement A x y → (k : ℕ) → bar_sum A words h x k ≡ bar_sum A words h y k
    sums-respect x y e k =
        sum_over-equal words (λ z. product (r_polynomial A x z) (h z)) (λ z. product (r_polynomial A y z) (h z)) k
        (λ z. ap (λ (f : Coefficients). product f (h z) k) (r_polynomial-same A g e (same-refl A g z)))

    sums-long : (x : List ℕ) → n < word_length A x → (k : ℕ) → bar_sum A words h x k ≡ pos 0
    sums-long x l k =
        sum_over-none words (λ z. product (r_polynomial A x z) (h z)) k
        (λ z. ⊎_elim
        (λ (b : IsBelow A x z). ap (λ (f : Coefficients). product (r_polynomial A x z) f k)
        (long-none A g n w h c z (omega (arith, l, below-length A g b))) ∙ product-zero (r_polynomial A x z) k)
        (λ none. product_of_none (r_polynomial A x z) (h z) (r_polynomial-not_below A g x z none) k)
        (below_or_not A g x z))

    pub bar-combination : IsCombination A n w (bar A n words h)
    bar-combination = record {
      element = λ x y e k.
          bar-turned A g n w h c words x k
          ∙ ap (λ (m : ℕ). flip (n - m) (bar_sum A words h x) k) (word_length-equal A g e)
          ∙ ap (λ (f : Coefficients). flip (n - word_length A y) f k) (λ i j. sums-respect x y e j i)
          ∙ sym (bar-turned A g n w h c words y k);
      outside = λ x none k.
          bar-turned A g n w h c words x k
          ∙ ap (λ (f : Coefficients). flip (n - word_length A x) f k) (bar_sum-none A g w h c.outside words x none)
          ∙ ap (λ (f : Coefficients). f k) (flip-none (n - word_length A x));
      degree = λ x k above.
          bar-turned A g n w h c words x k
          ∙ ⊎_elim
          (λ (l : n < word_length A x). ap (λ (f : Coefficients). flip (n - word_length A x) f k) (λ i j. sums-long x l j i)
          ∙ ap (λ (f : Coefficients). f k) (flip-none (n - word_length A x)))
          (λ (l : word_length A x ≤ n). flip_above (bar_sum A words h x) (n - word_length A x) k (omega (arith, l, above)))
          (cases_lt n (word_length A x));
    }

    -- h(z), turned round
    turned : Family
    turned z = flip (n - word_length A z) (h z)

    turned-respects : RespectsElements A turned
    unfolding turned
    turned-respects x y e k =
        ap (λ (m : ℕ). flip (n - m) (h x) k) (word_length-equal A g e)
        ∙ ap (λ (f : Coefficients). flip (n - word_length A y) f k) (λ i j. c.element x y e j i)

    inverse_sum : (z : List ℕ) → IsBelow A z w → (x : List ℕ) (k : ℕ)
        → sum_over words (λ y. product (r_polynomial A x y) (left_inverse_word A (normal_form A z) (unit A) y)) k ≡ basis A z x k
    inverse_sum z b x k =
        ap (λ (f : Family). bar_sum A words f x k) (λ i y. coefficient-scaled z y i)
        ∙ ap (λ (f : Coefficients). f k) (bar_sum-scaled A words (sign (word_length A z)) (signed_r A z) x)
        ∙ ap (λ a. sign (word_length A z) *ℤ a) (r-inversion A g z words (λ y lies. each.once y (below-trans A g lies b)) x k)
        ∙ sign-twice (word_length A z) (basis A z x k)

    named-below : (z : List ℕ) → (occurrences A z words ≡ 0 → ⊥) → IsBelow A z w
    named-below z named = ⊎_elim (λ b. b) (λ none. absurd (named (each.no_other z none))) (below_or_not A g z w)

    named-term : (x z : List ℕ) (k : ℕ) → (occurrences A z words ≡ 0 → ⊥)
        → product (sum_over words (λ y. product (r_polynomial A x y) (left_inverse_word A (normal_form A z) (unit A) y))) (turned z) k
        ≡ (if is_same A x z then turned z else zero_polynomial) k
    named-term x z k named =
        ap (λ (f : Coefficients). product f (turned z) k) (λ i j. inverse_sum z (named-below z named) x j i)
        ∙ ⊎_elim
        (λ (e : SameElement A x z). ap (λ (f : Coefficients). product f (turned z) k) (basis-own A g z x (same-sym A g e))
        ∙ one-product (turned z) k ∙ rw (same-is_same A g e) refl)
        (λ (other : SameElement A x z → ⊥). ap (λ (f : Coefficients). product f (turned z) k)
        (basis-other A g z x (λ e. other (same-sym A g e)))
        ∙ zero-product (turned z) k ∙ rw (not_same-is_same A g x z other) refl)
        (same_or_not A g x z)

    own-term : (x : List ℕ) (k : ℕ) → pos (occurrences A x words) *ℤ turned x k ≡ turned x k
    unfolding turned
    own-term x k = ⊎_elim
        (λ (b : IsBelow A x w). ap (λ m. pos m *ℤ flip (n - word_length A x) (h x) k) (each.once x b)
        ∙ one_times (flip (n - word_length A x) (h x) k))
        (λ (none : IsBelow A x w → ⊥). ap (λ m. pos m *ℤ flip (n - word_length A x) (h x) k) (each.no_other x none)
        ∙ zero_times (flip (n - word_length A x) (h x) k)
        ∙ sym (ap (λ (f : Coefficients). flip (n - word_length A x) f k) (λ i j. c.outside x none j i)
        ∙ ap (λ (f : Coefficients). f k) (flip-none (n - word_length A x))))
        (below_or_not A g x w)

    sums-of-bar : (x : List ℕ) (k : ℕ) → bar_sum A words (bar A n words h) x k ≡ flip (n - word_length A x) (h x) k
    unfolding turned
    sums-of-bar x k =
        sym (sums-exchanged words (r_polynomial A x) (λ y z. left_inverse_word A (normal_form A z) (unit A) y) turned k)
        ∙ sum_over-named A g words
        (λ z. product (sum_over words (λ y. product (r_polynomial A x y) (left_inverse_word A (normal_form A z) (unit A) y))) (turned z))
        (λ z. if is_same A x z then turned z else zero_polynomial) k (λ z. named-term x z k)
        ∙ sum_over-one A g words x turned k turned-respects ∙ own-term x k

    pub bar-twice : (x : List ℕ) (k : ℕ) → bar A n words (bar A n words h) x k ≡ h x k
    bar-twice x k =
        bar-turned A g n w (bar A n words h) bar-combination words x k
        ∙ ap (λ (f : Coefficients). flip (n - word_length A x) f k) (λ i j. sums-of-bar x j i)
        ∙ flip-twice (n - word_length A x) (h x) (low A g n w h c x) k
