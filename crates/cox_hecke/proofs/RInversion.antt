-- Inversion of R: the sum of R(x,y) (-1)^l(y) R(y,w) over the y is (-1)^l(w) where x = w, else 0. So bar is its own inverse. By induction
-- on w: for a left descent s of w the family of the (-1)^l(y) R(y,w) is q g - (1 + T(s)) g, where g is that of sw.
use Rattle.std.proofs.Common.{◌≡◌, ℕ, zero, suc, Bool, true, false, not, if◌then◌else◌, List, [], ◌∷◌, ⊎_elim}
use Rattle.std.proofs.Common.{ℤ, pos, ◌+ℤ◌, ◌-ℤ◌, ◌*ℤ◌, neg_ℤ, refl, ap, sym, ◌∙◌, subst, arith}
use Rattle.std.proofs.lemmas.Int.{ints}
use Rattle.std.proofs.lemmas.Bool.{false≢true}
use Rattle.cox_base.specs.declared.side.Side.TheVariants.{Left}
use Rattle.cox_base.specs.Matrix.{IsLetter}
use Rattle.cox_base.specs.IntegerMatrix.{IntegerMatrix}
use Rattle.cox_base.specs.Admissible.{IsAdmissible}
use Rattle.cox_base.specs.Element.{SameElement}
use Rattle.cox_base.specs.Length.{word_length}
use Rattle.cox_base.specs.Descents.{IsLeftDescent}
use Rattle.cox_base.specs.Bruhat.{IsBelow}
use Rattle.cox_lemmas.proofs.Ring.{linears, multiply_out, neg_mul, times_zero, one_times}
use Rattle.cox_reflect.proofs.Elements.{same-refl, same-sym, same-square}
use Rattle.cox_reflect.proofs.Search.{word_length-equal}
use Rattle.cox_reflect.proofs.Lengths.{IsReduced-nil, empty_same, cons-word_length}
use Rattle.cox_reflect.proofs.Roots.{left_descent-letter}
use Rattle.cox_reflect.proofs.Bruhat.{below-same, below-trans, below-length, below-descent, below-cons}
use Rattle.cox_poly.specs.Coefficients.{Coefficients, zero_polynomial, one_polynomial, plus, times_q, times_q_less_one}
use Rattle.cox_poly.specs.Products.{product}
use Rattle.cox_poly.specs.Multiples.{minus, scaled}
use Rattle.cox_poly.proofs.Coefficients.{times_q_power-one}
use Rattle.cox_poly.proofs.Products.{product-one}
use Rattle.cox_rpoly.specs.RPolynomial.{r_polynomial}
use Rattle.cox_rpoly.specs.InverseOperators.{shortens_left}
use Rattle.cox_rpoly.proofs.PolynomialsOfElements.{r_polynomial-same, r_polynomial-equal, r_polynomial-not_below}
use Rattle.cox_hecke.specs.Family.{Family, RespectsElements}
use Rattle.cox_hecke.specs.Operators.{basis}
use Rattle.cox_hecke.specs.Sums.{bar_sum}
use Rattle.cox_hecke.specs.ListedElements.{occurrences}
use Rattle.cox_hecke.specs.ClosedLists.{IsClosedUnder}
use Rattle.cox_hecke.specs.StepFamily.{step}
use Rattle.cox_hecke.proofs.Descents.{Moves, left_moves, nat_lt-yes, yes-nat_lt, no-nat_lt, shortens_left-same, shortens_left-back}
use Rattle.cox_hecke.proofs.Descents.{some_left_descent}
use Rattle.cox_hecke.proofs.RPolynomials.{r-word, r-left_shorter, r-left_longer, r-left_moved}
use Rattle.cox_hecke.proofs.ListSums.{same-is_same, is_same-respects}
use Rattle.cox_hecke.proofs.ElementLists.{Tells-ListsEach, below_list, below_or_not, is_same-moved}
use Rattle.cox_hecke.proofs.BarSums.{bar-shorter, bar-longer, step-shorter, step-longer}
use Rattle.cox_hecke.proofs.Balance.{bar_sum-minus, bar_sum-times_q_power}
use Rattle.cox_hecke.proofs.OneRow.{bar_sum-lists}
use Rattle.cox_hecke.proofs.OperatorLaws.{unit-basis}
use Rattle.cox_hecke.proofs.BasisElements.{basis-other}
use Rattle.cox_hecke.proofs.Signs.{sign}
use Rattle.cox_hecke.proofs.SignedBasis.{signed_basis}

-- (-1)^l(y) R(y,w)
abbrev pub signed_r : IntegerMatrix → List ℕ → Family
signed_r A w y = scaled (sign (word_length A y)) (r_polynomial A y w)

-- where sy > y, with c = (-1)^l(y): f is R(y,sw), and h is R(sy,sw)
longer_core : (c : ℤ) (f h : Coefficients) (k : ℕ)
    → scaled c (plus (times_q_less_one f) (times_q h)) k
    ≡ times_q (scaled c f) k -ℤ plus (times_q (scaled (neg_ℤ c) h)) (scaled c f) k
longer_core c f h zero = simp multiply_out (omega (arith, linears))
longer_core c f h (suc k) = simp multiply_out (omega (arith, linears))

-- where sy < y, with c = (-1)^l(sy): f is R(sy,sw)
shorter_core : (c : ℤ) (f h : Coefficients) (k : ℕ) → scaled (neg_ℤ c) f k ≡ times_q h k -ℤ plus (scaled c f) (times_q h) k
shorter_core c f h k = simp multiply_out (omega (arith, linears))

at : {f h : Coefficients} → f ≡ h → (k : ℕ) → f k ≡ h k
at e k = ap (λ (f : Coefficients). f k) e

none : (c a : ℤ) → a ≡ pos 0 → c *ℤ a ≡ pos 0
none c a e = ap (λ (a : ℤ). c *ℤ a) e ∙ times_zero c

-- the sums at w from those at v = sw, with c = (-1)^l(v): a and b are those at x and at sx
sum_shorter : (c : ℤ) (a b f : Coefficients) (k : ℕ) → a ≡ zero_polynomial → b ≡ scaled c f
    → times_q a k -ℤ (a k +ℤ b k) ≡ scaled (neg_ℤ c) f k
sum_shorter c a b f zero e h = omega (arith, linears, at e zero, at h zero, neg_mul c (f zero))
sum_shorter c a b f (suc k) e h = omega (arith, linears, at e k, at e (suc k), at h (suc k), neg_mul c (f (suc k)))

sum_longer : (c : ℤ) (a b f : Coefficients) (k : ℕ) → b ≡ zero_polynomial → f ≡ zero_polynomial
    → times_q a k -ℤ times_q (plus a b) k ≡ scaled (neg_ℤ c) f k
sum_longer c a b f zero e h = omega (arith, linears, neg_mul c (f zero), none c (f zero) (at h zero))
sum_longer c a b f (suc k) e h = omega (arith, linears, at e k, neg_mul c (f (suc k)), none c (f (suc k)) (at h (suc k)))

module _ (A : IntegerMatrix) (g : IsAdmissible A) where
  -- by any word of y; and 0 unless y ≤ w
  pub signed_r-respects : (w : List ℕ) → RespectsElements A (signed_r A w)
  signed_r-respects w x y e k = rw (word_length-equal A g e, r_polynomial-same A g e (same-refl A g w)) refl

  pub signed_r-outside : (w x : List ℕ) → (IsBelow A x w → ⊥) → (k : ℕ) → signed_r A w x k ≡ pos 0
  signed_r-outside w x n k =
      omega (arith, ints, ap (λ (a : ℤ). sign (word_length A x) *ℤ a) (r_polynomial-not_below A g x w n k))

  -- ---- a left descent s of w

  module _ (w : List ℕ) (s : ℕ) (d : IsLeftDescent A w s) where
    letter : IsLetter A.rank s
    letter = left_descent-letter A g w s d

    signed_r-step : (y : List ℕ) → signed_r A w y ≡ minus (times_q (signed_r A (s ∷ w) y)) (step Left A s (signed_r A (s ∷ w)) y)
    signed_r-step y = go (shortens_left A s y) refl
      where
        size : (p : Bool) → shortens_left A s y ≡ p → Moves p (word_length A y) (word_length A (s ∷ y))
        size p e = subst (λ (p : Bool). Moves p (word_length A y) (word_length A (s ∷ y))) e (left_moves A g s y letter)

        go : (b : Bool) → shortens_left A s y ≡ b
            → signed_r A w y ≡ minus (times_q (signed_r A (s ∷ w) y)) (step Left A s (signed_r A (s ∷ w)) y)
        go true e =
            let m : word_length A y ≡ suc (word_length A (s ∷ y)) = size true e
            in ap (λ (n : ℕ). scaled (sign n) (r_polynomial A y w)) m
            ∙ ap (scaled (neg_ℤ (sign (word_length A (s ∷ y)))))
            (r-left_shorter A g y w s d (yes-nat_lt (word_length A (s ∷ y)) (word_length A y) e))
            ∙ (λ i k. shorter_core (sign (word_length A (s ∷ y))) (r_polynomial A (s ∷ y) (s ∷ w)) (signed_r A (s ∷ w) y) k i)
            ∙ ap (minus (times_q (signed_r A (s ∷ w) y))) (sym (step-shorter A g s (signed_r A (s ∷ w)) y e))
        go false e =
            let m : word_length A (s ∷ y) ≡ suc (word_length A y) = size false e
            in let n : IsLeftDescent A y s → ⊥ = no-nat_lt (word_length A (s ∷ y)) (word_length A y) e
            in ap (scaled (sign (word_length A y)))
            (r-left_longer A g y w s d n
            ∙ ap (λ (f : Coefficients). plus (times_q_less_one f) (times_q (r_polynomial A (s ∷ y) (s ∷ w)))) (r-left_moved A g y w s d n))
            ∙ (λ i k. longer_core (sign (word_length A y)) (r_polynomial A y (s ∷ w)) (r_polynomial A (s ∷ y) (s ∷ w)) k i)
            ∙ ap (λ (f : Coefficients). minus (times_q (signed_r A (s ∷ w) y)) (plus (times_q f) (signed_r A (s ∷ w) y)))
            (ap (λ (n : ℕ). scaled (sign n) (r_polynomial A (s ∷ y) (s ∷ w))) (sym m))
            ∙ ap (minus (times_q (signed_r A (s ∷ w) y))) (sym (step-longer A g s (signed_r A (s ∷ w)) y e))

    -- the elements below w, listed
    lower : List (List ℕ)
    lower = (below_list A g w).0

    lists : (y : List ℕ) → IsBelow A y w → occurrences A y lower ≡ 1
    unfolding lower
    lists = (Tells-ListsEach A (λ y. IsBelow A y w) (below_list A g w).0 (below_list A g w).1).once

    no_other : (y : List ℕ) → (IsBelow A y w → ⊥) → occurrences A y lower ≡ 0
    unfolding lower
    no_other = (Tells-ListsEach A (λ y. IsBelow A y w) (below_list A g w).0 (below_list A g w).1).no_other

    closed : IsClosedUnder A s lower
    closed = record {
      once = λ x. ⊎_elim (λ (b : IsBelow A x w). omega (arith, lists x b)) (λ (n : IsBelow A x w → ⊥). omega (arith, no_other x n))
          (below_or_not A g x w);
      closed = λ x. ⊎_elim
          (λ (b : IsBelow A x w). lists (s ∷ x) (below-cons A g x w s d b) ∙ sym (lists x b))
          (λ (n : IsBelow A x w → ⊥). no_other (s ∷ x)
          (λ b. n (below-same A g (same-square A g s x) (same-refl A g w) (below-cons A g (s ∷ x) w s d b))) ∙ sym (no_other x n))
          (below_or_not A g x w);
    }

    sums-step : (x : List ℕ) (k : ℕ) → bar_sum A lower (signed_r A w) x k
        ≡ times_q (bar_sum A lower (signed_r A (s ∷ w)) x) k -ℤ bar_sum A lower (step Left A s (signed_r A (s ∷ w))) x k
    sums-step x k =
        ap (λ (h : Family). bar_sum A lower h x k) (λ i y. signed_r-step y i)
        ∙ ap (λ (f : Coefficients). f k)
        (bar_sum-minus A lower (λ y. times_q (signed_r A (s ∷ w) y)) (step Left A s (signed_r A (s ∷ w))) x)
        ∙ ap (λ (f : Coefficients). f k -ℤ bar_sum A lower (step Left A s (signed_r A (s ∷ w))) x k)
        (ap (λ (h : Family). bar_sum A lower h x) (λ i y. sym (times_q_power-one (signed_r A (s ∷ w) y)) i)
        ∙ bar_sum-times_q_power A lower 1 (signed_r A (s ∷ w)) x ∙ times_q_power-one (bar_sum A lower (signed_r A (s ∷ w)) x))

    -- sx = sw exactly where x = w
    basis-moved : (x : List ℕ) → basis A (s ∷ w) (s ∷ x) ≡ basis A w x
    basis-moved x =
        ap (λ (b : Bool). if b then one_polynomial else zero_polynomial)
        (is_same-moved A g s (s ∷ w) x ∙ is_same-respects A g x (same-square A g s w))

    below_apart : (x : List ℕ) → shortens_left A s x ≡ true → SameElement A (s ∷ w) x → ⊥
    below_apart x e same =
        false≢true (sym (shortens_left-back A g s w letter ∙ ap not (nat_lt-yes d)) ∙ shortens_left-same A g s same ∙ e)

    apart : (x : List ℕ) → shortens_left A s x ≡ false → SameElement A w x → ⊥
    apart x e same = false≢true (sym e ∙ sym (shortens_left-same A g s same) ∙ nat_lt-yes d)

    inversion-step : ((y : List ℕ) → bar_sum A lower (signed_r A (s ∷ w)) y ≡ signed_basis A (s ∷ w) y)
        → (x : List ℕ) (k : ℕ) → bar_sum A lower (signed_r A w) x k ≡ signed_basis A w x k
    inversion-step ih x k = go (shortens_left A s x) refl
      where
        size : word_length A w ≡ suc (word_length A (s ∷ w))
        size = subst (λ (p : Bool). Moves p (word_length A w) (word_length A (s ∷ w))) (nat_lt-yes d) (left_moves A g s w letter)

        turned : signed_basis A w x ≡ scaled (neg_ℤ (sign (word_length A (s ∷ w)))) (basis A w x)
        turned = ap (λ (n : ℕ). scaled (sign n) (basis A w x)) size

        nothing : scaled (sign (word_length A (s ∷ w))) zero_polynomial ≡ zero_polynomial
        nothing = λ i k. times_zero (sign (word_length A (s ∷ w))) i

        go : (b : Bool) → shortens_left A s x ≡ b → bar_sum A lower (signed_r A w) x k ≡ signed_basis A w x k
        go true e =
            sums-step x k
            ∙ ap (λ (a : ℤ). times_q (bar_sum A lower (signed_r A (s ∷ w)) x) k -ℤ a)
            (bar-shorter A g s letter (signed_r A (s ∷ w)) (signed_r-respects (s ∷ w)) lower closed x k e)
            ∙ sum_shorter (sign (word_length A (s ∷ w))) (bar_sum A lower (signed_r A (s ∷ w)) x)
            (bar_sum A lower (signed_r A (s ∷ w)) (s ∷ x)) (basis A w x) k
            (ih x ∙ ap (scaled (sign (word_length A (s ∷ w)))) (basis-other A g (s ∷ w) x (below_apart x e)) ∙ nothing)
            (ih (s ∷ x) ∙ ap (scaled (sign (word_length A (s ∷ w)))) (basis-moved x))
            ∙ ap (λ (f : Coefficients). f k) (sym turned)
        go false e =
            sums-step x k
            ∙ ap (λ (a : ℤ). times_q (bar_sum A lower (signed_r A (s ∷ w)) x) k -ℤ a)
            (bar-longer A g s letter (signed_r A (s ∷ w)) (signed_r-respects (s ∷ w)) lower closed x k e)
            ∙ sum_longer (sign (word_length A (s ∷ w))) (bar_sum A lower (signed_r A (s ∷ w)) x)
            (bar_sum A lower (signed_r A (s ∷ w)) (s ∷ x)) (basis A w x) k
            (ih (s ∷ x) ∙ ap (scaled (sign (word_length A (s ∷ w)))) (basis-moved x ∙ basis-other A g w x (apart x e)) ∙ nothing)
            (basis-other A g w x (apart x e))
            ∙ ap (λ (f : Coefficients). f k) (sym turned)

  -- ---- all elements

  -- at the identity
  inversion_identity : (w : List ℕ) → word_length A w ≡ 0 → (x : List ℕ) (k : ℕ)
      → bar_sum A ([] ∷ []) (signed_r A w) x k ≡ signed_basis A w x k
  inversion_identity w z x k =
      let same : SameElement A [] w = same-sym A g (empty_same A g w z)
      in let value : r_polynomial A x [] ≡ basis A w x
      = r-word A g x [] [] (IsReduced-nil A g) (same-refl A g []) ∙ ap (λ (h : Family). h x) (unit-basis A g)
      ∙ ap (λ (b : Bool). if b then one_polynomial else zero_polynomial) (is_same-respects A g x same)
      in let term : product (r_polynomial A x []) (signed_r A w []) k ≡ basis A w x k
      = ap (λ (f : Coefficients). product (r_polynomial A x []) f k)
      (rw (r_polynomial-equal A g same, word_length-equal A g same, z) (λ i k. one_times (one_polynomial k) i))
      ∙ product-one (r_polynomial A x []) k ∙ ap (λ (f : Coefficients). f k) value
      in let sum : bar_sum A ([] ∷ []) (signed_r A w) x k ≡ basis A w x k = omega (arith, ints, term)
      in sum ∙ rw z (sym (one_times (basis A w x k)))

  abbrev Lists : List ℕ → List (List ℕ) → Type 0
  Lists w words = (y : List ℕ) → IsBelow A y w → occurrences A y words ≡ 1

  any_list : (w : List ℕ) (ys zs : List (List ℕ)) → Lists w ys → Lists w zs → (x : List ℕ) (k : ℕ)
      → bar_sum A ys (signed_r A w) x k ≡ bar_sum A zs (signed_r A w) x k
  any_list w ys zs once_ys once_zs x k =
      bar_sum-lists A g w (signed_r A w) (signed_r-outside w) (signed_r-respects w) x ys zs (λ y b. once_ys y b.below)
      (λ y b. once_zs y b.below) k

  inversion : (n : ℕ) (w : List ℕ) → word_length A w ≡ n → (words : List (List ℕ)) → Lists w words
      → (x : List ℕ) (k : ℕ) → bar_sum A words (signed_r A w) x k ≡ signed_basis A w x k
  inversion zero w z words once x k = any_list w words ([] ∷ []) once only x k ∙ inversion_identity w z x k
    where
      only : Lists w ([] ∷ [])
      only y b = rw (same-is_same A g (empty_same A g y (omega (arith, z, below-length A g b)))) refl
  inversion (suc n) w z words once x k =
      by (some_left_descent A g w (omega (arith, z))) (λ v e words once x k. inversion n v e words once x k)
    where
      by : (s : ℕ) × IsLeftDescent A w s
          → ((v : List ℕ) → word_length A v ≡ n → (words : List (List ℕ)) → Lists v words
          → (x : List ℕ) (k : ℕ) → bar_sum A words (signed_r A v) x k ≡ signed_basis A v x k)
          → bar_sum A words (signed_r A w) x k ≡ signed_basis A w x k
      by (s, d) shorter =
          any_list w words (lower w s d) once (lists w s d) x k
          ∙ inversion-step w s d
          (λ y i k. shorter (s ∷ w) (omega (arith, z, d, cons-word_length A g s w)) (lower w s d)
          (λ y b. lists w s d y (below-trans A g b (below-descent A g w s d))) y k i)
          x k

  -- over any list that names each element below w once
  pub r-inversion : (w : List ℕ) (words : List (List ℕ)) → ((y : List ℕ) → IsBelow A y w → occurrences A y words ≡ 1)
      → (x : List ℕ) (k : ℕ) → bar_sum A words (signed_r A w) x k ≡ signed_basis A w x k
  r-inversion w words once x k = inversion (word_length A w) w refl words once x k
