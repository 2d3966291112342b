-- Families F that turned round in the degrees n - l(x) are G: they are closed under 1 + T(s), multiples by powers of q, sums and
-- differences. The last condition of a row of w says that of n = l(w), with the sums of R(x,y) p(y) for G.
use Rattle.std.proofs.Common.{◌≡◌, ℕ, zero, suc, ◌+◌, ◌*◌, ◌≤◌, ◌<◌, Bool, true, false, if◌then◌else◌, List, ◌∷◌}
use Rattle.std.proofs.Common.{ℤ, pos, ◌+ℤ◌, ◌-ℤ◌, ◌*ℤ◌, neg_ℤ, refl, ap, sym, ◌∙◌, subst, arith}
use Rattle.std.proofs.lemmas.Int.{ints}
use lib.IntN.{+ℤ_comm}
use Rattle.cox_base.specs.declared.side.Side.TheVariants.{Left}
use Rattle.cox_base.specs.Matrix.{IsLetter}
use Rattle.cox_base.specs.IntegerMatrix.{IntegerMatrix}
use Rattle.cox_base.specs.Admissible.{IsAdmissible}
use Rattle.cox_base.specs.Length.{word_length}
use Rattle.cox_poly.specs.Coefficients.{Coefficients, zero_polynomial, plus, times_q}
use Rattle.cox_poly.specs.Products.{times_q_power, flip, product}
use Rattle.cox_poly.specs.Multiples.{minus, scaled}
use Rattle.cox_poly.specs.Size.{HasDegreeAtMost}
use Rattle.cox_poly.proofs.Coefficients.{times_q_power-zero, times_q_power-suc}
use Rattle.cox_poly.proofs.Coefficients.{flip-none, flip-plus, flip-minus, flip-scaled, flip-suc, flip-times_q, flip_low-times_q}
use Rattle.cox_poly.proofs.Products.{product-plus, product-negated, product-scaled, product-times_q}
use Rattle.cox_rpoly.specs.RPolynomial.{r_polynomial}
use Rattle.cox_rpoly.specs.InverseOperators.{shortens_left}
use Rattle.cox_hecke.specs.Family.{Family}
use Rattle.cox_hecke.specs.Sums.{bar_sum}
use Rattle.cox_hecke.specs.StepFamily.{step}
use Rattle.cox_hecke.proofs.Descents.{Moves, left_moves}
use Rattle.cox_hecke.proofs.BarSums.{step-shorter, step-longer}
use Rattle.cox_hecke.proofs.ListSums.{sum_over-equal, sum_over-plus, sum_over-minus, sum_over-scaled, sum_over-times_q}

-- ---- polynomials

pub plus_paths : {f f' h h' : Coefficients} → f ≡ f' → h ≡ h' → plus f h ≡ plus f' h'
plus_paths p r = λ i k. p i k +ℤ r i k

pub times_q-none : times_q zero_polynomial ≡ zero_polynomial
times_q-none = λ i k. at k i
  where
    at : (k : ℕ) → times_q zero_polynomial k ≡ pos 0
    at zero = refl
    at (suc k) = refl

plus-none : plus zero_polynomial zero_polynomial ≡ zero_polynomial
plus-none = λ i k. at k i
  where
    at : (k : ℕ) → plus zero_polynomial zero_polynomial k ≡ pos 0
    at k = refl

degree-none : {f : Coefficients} (d : ℕ) → f ≡ zero_polynomial → HasDegreeAtMost f d
degree-none d e k l = ap (λ (f : Coefficients). f k) e

degree-plus : {f h : Coefficients} (d : ℕ) → HasDegreeAtMost f d → HasDegreeAtMost h d → HasDegreeAtMost (plus f h) d
degree-plus d low_f low_h k l = omega (arith, ints, low_f k l, low_h k l)

degree-times_q : {f : Coefficients} (d : ℕ) → HasDegreeAtMost f d → HasDegreeAtMost (times_q f) (suc d)
degree-times_q d low zero l = refl
degree-times_q d low (suc k) l = low k (omega arith)

-- ---- balanced families

pub record Balanced (A : IntegerMatrix) (n : ℕ) (F G : Family) : Type 0 where
  pub none : (x : List ℕ) → n < word_length A x → F x ≡ zero_polynomial
  pub none_sum : (x : List ℕ) → n < word_length A x → G x ≡ zero_polynomial
  pub low : (x : List ℕ) (d : ℕ) → n ≤ word_length A x + d → HasDegreeAtMost (F x) d
  pub turned : (x : List ℕ) (d : ℕ) → n ≡ word_length A x + d → flip d (F x) ≡ G x

-- the sums that belong to (1 + T(s)) F
abbrev pub step_sums : IntegerMatrix → ℕ → Family → Family
step_sums A s G x = if shortens_left A s x then plus (G x) (G (s ∷ x)) else times_q (plus (G x) (G (s ∷ x)))

module _ (A : IntegerMatrix) where
  pub Balanced-none : (n : ℕ) → Balanced A n (λ x. zero_polynomial) (λ x. zero_polynomial)
  Balanced-none n = record {
    none = λ x l. refl;
    none_sum = λ x l. refl;
    low = λ x d e. degree-none d refl;
    turned = λ x d e. flip-none d;
  }

  pub Balanced-plus : (n : ℕ) {F G F' G' : Family} → Balanced A n F G → Balanced A n F' G'
      → Balanced A n (λ x. plus (F x) (F' x)) (λ x. plus (G x) (G' x))
  Balanced-plus n {F} {G} {F'} {G'} b c = record {
    none = λ x l. plus_paths (b.none x l) (c.none x l) ∙ plus-none;
    none_sum = λ x l. plus_paths (b.none_sum x l) (c.none_sum x l) ∙ plus-none;
    low = λ x d e. degree-plus d (b.low x d e) (c.low x d e);
    turned = λ x d e. flip-plus d (F x) (F' x) ∙ plus_paths (b.turned x d e) (c.turned x d e);
  }

  pub Balanced-scaled : (n : ℕ) (c : ℤ) {F G : Family} → Balanced A n F G → Balanced A n (λ x. scaled c (F x)) (λ x. scaled c (G x))
  Balanced-scaled n c {F} {G} b = record {
    none = λ x l. ap (scaled c) (b.none x l) ∙ multiple;
    none_sum = λ x l. ap (scaled c) (b.none_sum x l) ∙ multiple;
    low = λ x d e k l. omega (arith, ints, ap (λ (z : ℤ). c *ℤ z) (b.low x d e k l));
    turned = λ x d e. (λ i k. flip-scaled d c (F x) k i) ∙ ap (scaled c) (b.turned x d e);
  }
    where
      multiple : scaled c zero_polynomial ≡ zero_polynomial
      multiple = λ i k. at k i
        where
          at : (k : ℕ) → c *ℤ pos 0 ≡ pos 0
          at k = omega (arith, ints)

  pub Balanced-minus : (n : ℕ) {F G F' G' : Family} → Balanced A n F G → Balanced A n F' G'
      → Balanced A n (λ x. minus (F x) (F' x)) (λ x. minus (G x) (G' x))
  Balanced-minus n {F} {G} {F'} {G'} b c = record {
    none = λ x l. minus_paths (b.none x l) (c.none x l);
    none_sum = λ x l. minus_paths (b.none_sum x l) (c.none_sum x l);
    low = λ x d e k l. omega (arith, ints, b.low x d e k l, c.low x d e k l);
    turned = λ x d e. flip-minus d (F x) (F' x) ∙ (λ i k. b.turned x d e i k -ℤ c.turned x d e i k);
  }
    where
      minus_paths : {f h : Coefficients} → f ≡ zero_polynomial → h ≡ zero_polynomial → minus f h ≡ zero_polynomial
      minus_paths {f} {h} p r = (λ i k. p i k -ℤ r i k) ∙ (λ i k. at k i)
        where
          at : (k : ℕ) → pos 0 -ℤ pos 0 ≡ pos 0
          at k = refl

  -- turned round in one degree more
  raised : {n : ℕ} {F G : Family} → Balanced A n F G → (x : List ℕ) (d : ℕ) → suc n ≡ word_length A x + d → flip d (F x) ≡ times_q (G x)
  raised b x zero e =
      let l : _ < word_length A x = omega arith
      in ap (flip 0) (b.none x l) ∙ flip-none 0 ∙ sym (ap times_q (b.none_sum x l) ∙ times_q-none)
  raised {n} {F} {G} b x (suc d) e = (λ i k. flip-suc d (F x) (b.low x d (omega arith)) k i) ∙ ap times_q (b.turned x d (omega arith))

  -- and for q F
  lowered : {n : ℕ} {F G : Family} → Balanced A n F G → (x : List ℕ) (d : ℕ) → suc n ≡ word_length A x + d → flip d (times_q (F x)) ≡ G x
  lowered {n} {F} {G} b x zero e = flip_low-times_q (F x) ∙ sym (b.none_sum x (omega arith))
  lowered {n} {F} {G} b x (suc d) e = (λ i k. flip-times_q d (F x) k i) ∙ b.turned x d (omega arith)

  -- q F, two degrees more
  pub Balanced-times_q : (n : ℕ) {F G : Family} → Balanced A n F G → Balanced A (suc (suc n)) (λ x. times_q (F x)) (λ x. times_q (G x))
  Balanced-times_q n {F} {G} b = record {
    none = λ x l. ap times_q (b.none x (omega arith)) ∙ times_q-none;
    none_sum = λ x l. ap times_q (b.none_sum x (omega arith)) ∙ times_q-none;
    low = λ x d e. low x d e;
    turned = λ x d e. turned x d e;
  }
    where
      low : (x : List ℕ) (d : ℕ) → suc (suc n) ≤ word_length A x + d → HasDegreeAtMost (times_q (F x)) d
      low x zero e = degree-none 0 (ap times_q (b.none x (omega arith)) ∙ times_q-none)
      low x (suc d) e = degree-times_q d (b.low x d (omega arith))

      turned : (x : List ℕ) (d : ℕ) → suc (suc n) ≡ word_length A x + d → flip d (times_q (F x)) ≡ times_q (G x)
      turned x zero e = flip_low-times_q (F x) ∙ sym (ap times_q (b.none_sum x (omega arith)) ∙ times_q-none)
      turned x (suc d) e = (λ i k. flip-times_q d (F x) k i) ∙ raised b x d (omega arith)

  pub Balanced-times_q_power : (n m : ℕ) {F G : Family} → Balanced A n F G
      → Balanced A (n + 2 * m) (λ x. times_q_power m (F x)) (λ x. times_q_power m (G x))
  Balanced-times_q_power n zero {F} {G} b =
      let e : n ≡ n + 2 * 0 = omega arith
      in subst (λ (n : ℕ). Balanced A n (λ x. times_q_power 0 (F x)) (λ x. times_q_power 0 (G x))) e
      (subst (λ (H : Family). Balanced A n H (λ x. times_q_power 0 (G x))) (λ i x. sym (times_q_power-zero (F x)) i)
      (subst (λ (H : Family). Balanced A n F H) (λ i x. sym (times_q_power-zero (G x)) i) b))
  Balanced-times_q_power n (suc m) {F} {G} b =
      let e : suc (suc (n + 2 * m)) ≡ n + 2 * suc m = omega arith
      in subst (λ (n : ℕ). Balanced A n (λ x. times_q_power (suc m) (F x)) (λ x. times_q_power (suc m) (G x))) e
      (subst (λ (H : Family). Balanced A (suc (suc (n + 2 * m))) H (λ x. times_q_power (suc m) (G x)))
      (λ i x. sym (times_q_power-suc m (F x)) i)
      (subst (λ (H : Family). Balanced A (suc (suc (n + 2 * m))) (λ x. times_q (times_q_power m (F x))) H)
      (λ i x. sym (times_q_power-suc m (G x)) i) (Balanced-times_q (n + 2 * m) (Balanced-times_q_power n m b))))

  -- (1 + T(s)) F, one degree more
  module _ (g : IsAdmissible A) (s : ℕ) (l : IsLetter A.rank s) {n : ℕ} {F G : Family} (b : Balanced A n F G) where
    sums-shorter : (x : List ℕ) → shortens_left A s x ≡ true → step_sums A s G x ≡ plus (G x) (G (s ∷ x))
    sums-shorter x e = rw e refl

    sums-longer : (x : List ℕ) → shortens_left A s x ≡ false → step_sums A s G x ≡ times_q (plus (G x) (G (s ∷ x)))
    sums-longer x e = rw e refl

    times_q-plus : (f h : Coefficients) → plus (times_q f) (times_q h) ≡ times_q (plus f h)
    times_q-plus f h = λ i k. at k i
      where
        at : (k : ℕ) → plus (times_q f) (times_q h) k ≡ times_q (plus f h) k
        at zero = refl
        at (suc k) = refl

    pub Balanced-step : Balanced A (suc n) (step Left A s F) (step_sums A s G)
    Balanced-step = record {
      none = λ x more. none x more (shortens_left A s x) refl (left_moves A g s x l);
      none_sum = λ x more. none_sum x more (shortens_left A s x) refl (left_moves A g s x l);
      low = λ x d e. low x d e (shortens_left A s x) refl (left_moves A g s x l);
      turned = λ x d e. turned x d e (shortens_left A s x) refl (left_moves A g s x l);
    }
      where
        size : (x : List ℕ) (p : Bool) → shortens_left A s x ≡ p → Moves (shortens_left A s x) (word_length A x) (word_length A (s ∷ x))
            → Moves p (word_length A x) (word_length A (s ∷ x))
        size x p e m = subst (λ (p : Bool). Moves p (word_length A x) (word_length A (s ∷ x))) e m

        none : (x : List ℕ) → suc n < word_length A x → (p : Bool) → shortens_left A s x ≡ p
            → Moves (shortens_left A s x) (word_length A x) (word_length A (s ∷ x)) → step Left A s F x ≡ zero_polynomial
        none x more true e m =
            let m' : word_length A x ≡ suc (word_length A (s ∷ x)) = size x true e m
            in step-shorter A g s F x e ∙ plus_paths (b.none (s ∷ x) (omega (arith, m', more)))
            (ap times_q (b.none x (omega (arith, more))) ∙ times_q-none) ∙ plus-none
        none x more false e m =
            let m' : word_length A (s ∷ x) ≡ suc (word_length A x) = size x false e m
            in step-longer A g s F x e
            ∙ plus_paths (ap times_q (b.none (s ∷ x) (omega (arith, m', more))) ∙ times_q-none) (b.none x (omega (arith, more))) ∙ plus-none

        none_sum : (x : List ℕ) → suc n < word_length A x → (p : Bool) → shortens_left A s x ≡ p
            → Moves (shortens_left A s x) (word_length A x) (word_length A (s ∷ x)) → step_sums A s G x ≡ zero_polynomial
        none_sum x more true e m =
            let m' : word_length A x ≡ suc (word_length A (s ∷ x)) = size x true e m
            in sums-shorter x e ∙ plus_paths (b.none_sum x (omega (arith, more))) (b.none_sum (s ∷ x) (omega (arith, m', more))) ∙ plus-none
        none_sum x more false e m =
            let m' : word_length A (s ∷ x) ≡ suc (word_length A x) = size x false e m
            in sums-longer x e
            ∙ ap times_q (plus_paths (b.none_sum x (omega (arith, more))) (b.none_sum (s ∷ x) (omega (arith, m', more))) ∙ plus-none)
            ∙ times_q-none

        low : (x : List ℕ) (d : ℕ) → suc n ≤ word_length A x + d → (p : Bool) → shortens_left A s x ≡ p
            → Moves (shortens_left A s x) (word_length A x) (word_length A (s ∷ x)) → HasDegreeAtMost (step Left A s F x) d
        low x d near true e m =
            let m' : word_length A x ≡ suc (word_length A (s ∷ x)) = size x true e m
            in subst (λ (f : Coefficients). HasDegreeAtMost f d) (sym (step-shorter A g s F x e))
            (degree-plus d (b.low (s ∷ x) d (omega (arith, m', near))) (times d near))
          where
            times : (d : ℕ) → suc n ≤ word_length A x + d → HasDegreeAtMost (times_q (F x)) d
            times zero near = degree-none 0 (ap times_q (b.none x (omega (arith, near))) ∙ times_q-none)
            times (suc d) near = degree-times_q d (b.low x d (omega (arith, near)))
        low x d near false e m =
            let m' : word_length A (s ∷ x) ≡ suc (word_length A x) = size x false e m
            in subst (λ (f : Coefficients). HasDegreeAtMost f d) (sym (step-longer A g s F x e))
            (degree-plus d (times d (omega (arith, m', near))) (b.low x d (omega (arith, near))))
          where
            times : (d : ℕ) → suc (suc n) ≤ word_length A (s ∷ x) + d → HasDegreeAtMost (times_q (F (s ∷ x))) d
            times zero near = degree-none 0 (ap times_q (b.none (s ∷ x) (omega (arith, near))) ∙ times_q-none)
            times (suc d) near = degree-times_q d (b.low (s ∷ x) d (omega (arith, near)))

        turned : (x : List ℕ) (d : ℕ) → suc n ≡ word_length A x + d → (p : Bool) → shortens_left A s x ≡ p
            → Moves (shortens_left A s x) (word_length A x) (word_length A (s ∷ x)) → flip d (step Left A s F x) ≡ step_sums A s G x
        turned x d size_d true e m =
            let m' : word_length A x ≡ suc (word_length A (s ∷ x)) = size x true e m
            in ap (flip d) (step-shorter A g s F x e) ∙ flip-plus d (F (s ∷ x)) (times_q (F x))
            ∙ plus_paths (b.turned (s ∷ x) d (omega (arith, m', size_d))) (lowered b x d size_d)
            ∙ (λ i k. +ℤ_comm (G (s ∷ x) k) (G x k) i) ∙ sym (sums-shorter x e)
        turned x d size_d false e m =
            let m' : word_length A (s ∷ x) ≡ suc (word_length A x) = size x false e m
            in ap (flip d) (step-longer A g s F x e) ∙ flip-plus d (times_q (F (s ∷ x))) (F x)
            ∙ plus_paths (times d (omega (arith, m', size_d))) (raised b x d size_d)
            ∙ times_q-plus (G (s ∷ x)) (G x)
            ∙ ap times_q (λ i k. +ℤ_comm (G (s ∷ x) k) (G x k) i) ∙ sym (sums-longer x e)
          where
            times : (d : ℕ) → suc (suc n) ≡ word_length A (s ∷ x) + d → flip d (times_q (F (s ∷ x))) ≡ times_q (G (s ∷ x))
            times d e = (Balanced-times_q n b).turned (s ∷ x) d e

  -- ---- the sums are linear

  pub bar_sum-minus : (words : List (List ℕ)) (f h : Family) (x : List ℕ)
      → bar_sum A words (λ y. minus (f y) (h y)) x ≡ minus (bar_sum A words f x) (bar_sum A words h x)
  bar_sum-minus words f h x = λ i k. at k i
    where
      at : (k : ℕ) → bar_sum A words (λ y. minus (f y) (h y)) x k ≡ bar_sum A words f x k -ℤ bar_sum A words h x k
      at k =
          sum_over-equal words (λ y. product (r_polynomial A x y) (minus (f y) (h y)))
          (λ y. minus (product (r_polynomial A x y) (f y)) (product (r_polynomial A x y) (h y))) k
          (λ y. one y)
          ∙ sum_over-minus words (λ y. product (r_polynomial A x y) (f y)) (λ y. product (r_polynomial A x y) (h y)) k
        where
          one : (y : List ℕ) → product (r_polynomial A x y) (minus (f y) (h y)) k
              ≡ product (r_polynomial A x y) (f y) k -ℤ product (r_polynomial A x y) (h y) k
          one y =
              omega (
                arith,
                ints,
                product-plus (r_polynomial A x y) (f y) (λ j. neg_ℤ (h y j)) k,
                product-negated (r_polynomial A x y) (h y) k,
              )

  pub bar_sum-plus : (words : List (List ℕ)) (f h : Family) (x : List ℕ)
      → bar_sum A words (λ y. plus (f y) (h y)) x ≡ plus (bar_sum A words f x) (bar_sum A words h x)
  bar_sum-plus words f h x = λ i k. at k i
    where
      at : (k : ℕ) → bar_sum A words (λ y. plus (f y) (h y)) x k ≡ bar_sum A words f x k +ℤ bar_sum A words h x k
      at k =
          sum_over-equal words (λ y. product (r_polynomial A x y) (plus (f y) (h y)))
          (λ y. plus (product (r_polynomial A x y) (f y)) (product (r_polynomial A x y) (h y))) k
          (λ y. product-plus (r_polynomial A x y) (f y) (h y) k)
          ∙ sum_over-plus words (λ y. product (r_polynomial A x y) (f y)) (λ y. product (r_polynomial A x y) (h y)) k

  pub bar_sum-scaled : (words : List (List ℕ)) (c : ℤ) (f : Family) (x : List ℕ)
      → bar_sum A words (λ y. scaled c (f y)) x ≡ scaled c (bar_sum A words f x)
  bar_sum-scaled words c f x = λ i k. at k i
    where
      at : (k : ℕ) → bar_sum A words (λ y. scaled c (f y)) x k ≡ c *ℤ bar_sum A words f x k
      at k =
          sum_over-equal words (λ y. product (r_polynomial A x y) (scaled c (f y))) (λ y. scaled c (product (r_polynomial A x y) (f y))) k
          (λ y. product-scaled c (r_polynomial A x y) (f y) k) ∙ sum_over-scaled words c (λ y. product (r_polynomial A x y) (f y)) k

  bar_sum-times_q : (words : List (List ℕ)) (f : Family) (x : List ℕ)
      → bar_sum A words (λ y. times_q (f y)) x ≡ times_q (bar_sum A words f x)
  bar_sum-times_q words f x = λ i k. at k i
    where
      at : (k : ℕ) → bar_sum A words (λ y. times_q (f y)) x k ≡ times_q (bar_sum A words f x) k
      at k =
          sum_over-equal words (λ y. product (r_polynomial A x y) (times_q (f y))) (λ y. times_q (product (r_polynomial A x y) (f y))) k
          (λ y. product-times_q (r_polynomial A x y) (f y) k) ∙ sum_over-times_q words (λ y. product (r_polynomial A x y) (f y)) k

  pub bar_sum-times_q_power : (words : List (List ℕ)) (m : ℕ) (f : Family) (x : List ℕ)
      → bar_sum A words (λ y. times_q_power m (f y)) x ≡ times_q_power m (bar_sum A words f x)
  bar_sum-times_q_power words zero f x =
      ap (λ (h : Family). bar_sum A words h x) (λ i y. times_q_power-zero (f y) i) ∙ sym (times_q_power-zero (bar_sum A words f x))
  bar_sum-times_q_power words (suc m) f x =
      ap (λ (h : Family). bar_sum A words h x) (λ i y. times_q_power-suc m (f y) i)
      ∙ bar_sum-times_q words (λ y. times_q_power m (f y)) x ∙ ap times_q (bar_sum-times_q_power words m f x)
      ∙ sym (times_q_power-suc m (bar_sum A words f x))
