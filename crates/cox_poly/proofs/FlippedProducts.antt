-- Products of polynomials that are turned round, in degrees that add up: the products of the turned factors.
use Rattle.std.proofs.Common.{◌≡◌, ℕ, zero, suc, ◌+◌, ◌-◌, ◌<◌, refl, ap, sym, ◌∙◌, ⊎_elim, arith}
use Rattle.std.proofs.Common.{ℤ, ◌+ℤ◌, ◌*ℤ◌}
use Rattle.std.proofs.lemmas.Int.{ints}
use Rattle.std.proofs.lemmas.Bool.{cases_order}
use Rattle.cox_lemmas.proofs.Ring.{times_zero}
use Rattle.cox_poly.specs.Coefficients.{Coefficients, one_polynomial, plus, times_q}
use Rattle.cox_poly.specs.Products.{times_q_power, without_constant, product, flip}
use Rattle.cox_poly.specs.Multiples.{scaled}
use Rattle.cox_poly.specs.Size.{HasDegreeAtMost}
use Rattle.cox_poly.proofs.Coefficients.{times_q_power_at, times_q_power_below, times_q_power-scaled}
use Rattle.cox_poly.proofs.Coefficients.{flip_at, flip_above, flip-plus, flip-scaled, flip-raised, flip-times_q}
use Rattle.cox_poly.proofs.Products.{product_of_none, one-product, plus-product, scaled-product, times_q_power-product, product-parts}

-- the constant term becomes the term of the highest degree
flip-first : (n : ℕ) (f : Coefficients) (k : ℕ)
    → flip (suc n) f k ≡ plus (flip n (without_constant f)) (times_q_power (suc n) (scaled (f zero) one_polynomial)) k
flip-first n f k = ⊎_elim here (λ side. ⊎_elim lower higher side) (cases_order k (suc n))
  where
    here : k ≡ suc n → flip (suc n) f k ≡ flip n (without_constant f) k +ℤ times_q_power (suc n) (scaled (f zero) one_polynomial) k
    here e =
        omega (
          arith,
          ints,
          flip_at f (suc n) k 0 (omega (arith, e)),
          flip_above (without_constant f) n k (omega (arith, e)),
          times_q_power_at (scaled (f zero) one_polynomial) (suc n) k 0 (omega (arith, e)),
        )

    lower : k < suc n → flip (suc n) f k ≡ flip n (without_constant f) k +ℤ times_q_power (suc n) (scaled (f zero) one_polynomial) k
    lower l =
        omega (
          arith,
          ints,
          flip_at f (suc n) k (suc (n - k)) (omega (arith, l)),
          flip_at (without_constant f) n k (n - k) (omega (arith, l)),
          times_q_power_below (scaled (f zero) one_polynomial) (suc n) k l,
        )

    higher : suc n < k → flip (suc n) f k ≡ flip n (without_constant f) k +ℤ times_q_power (suc n) (scaled (f zero) one_polynomial) k
    higher l =
        omega (
          arith,
          ints,
          flip_above f (suc n) k l,
          flip_above (without_constant f) n k (omega (arith, l)),
          times_q_power_at (scaled (f zero) one_polynomial) (suc n) k (suc (k - suc n - 1)) (omega (arith, l)),
          times_zero (f zero),
        )

-- a constant times h
constant-product : (f h : Coefficients) → HasDegreeAtMost f 0 → product f h ≡ scaled (f zero) h
constant-product f h low = λ i k. at k i
  where
    at : (k : ℕ) → product f h k ≡ f zero *ℤ h k
    at zero = refl
    at (suc k) = omega (arith, ints, product_of_none (without_constant f) h (λ j. low (suc j) (omega arith)) k)

-- the degrees add up
pub flip-product : (n m d : ℕ) (f h : Coefficients) → d ≡ n + m → HasDegreeAtMost f n → HasDegreeAtMost h m
    → (k : ℕ) → flip d (product f h) k ≡ product (flip n f) (flip m h) k
flip-product zero m d f h e low_f low_h k =
    let same : d ≡ m = omega arith
    in ap (λ (n : ℕ). flip n (product f h) k) same ∙ ap (λ (p : Coefficients). flip m p k) (constant-product f h low_f)
    ∙ flip-scaled m (f zero) h k ∙ ap (λ (c : ℤ). c *ℤ flip m h k) (sym (flip_at f 0 0 0 (omega arith)))
    ∙ sym (ap (λ (p : Coefficients). p k) (constant-product (flip 0 f) (flip m h) (λ j l. flip_above f 0 j l)))
flip-product (suc n) m d f h e low_f low_h k =
    let same : d ≡ suc (n + m) = omega arith
    in ap (λ (n : ℕ). flip n (product f h) k) same
    ∙ ap (λ (p : Coefficients). flip (suc (n + m)) p k) (λ i j. product-parts f h j i)
    ∙ ap (λ (p : Coefficients). p k) (flip-plus (suc (n + m)) (scaled (f zero) h) (times_q (product (without_constant f) h)))
    ∙ sum (flip-times_q (n + m) (product (without_constant f) h) k
    ∙ flip-product n m (n + m) (without_constant f) h refl (λ j l. low_f (suc j) (omega (arith, l))) low_h k)
  where
    constant : flip (suc (n + m)) (scaled (f zero) h) k ≡ product (times_q_power (suc n) (scaled (f zero) one_polynomial)) (flip m h) k
    constant =
        flip-scaled (suc (n + m)) (f zero) h k
        ∙ ap (λ (c : ℤ). f zero *ℤ c) (flip-raised (suc n) m (suc (n + m)) h (omega arith) low_h k)
        ∙ sym (times_q_power-product (suc n) (scaled (f zero) one_polynomial) (flip m h) k
        ∙ ap (λ (p : Coefficients). times_q_power (suc n) p k)
        (λ i j. (scaled-product (f zero) one_polynomial (flip m h) j ∙ ap (λ (c : ℤ). f zero *ℤ c) (one-product (flip m h) j)) i)
        ∙ times_q_power-scaled (suc n) (f zero) (flip m h) k)

    all : product (flip (suc n) f) (flip m h) k
        ≡ product (flip n (without_constant f)) (flip m h) k
        +ℤ product (times_q_power (suc n) (scaled (f zero) one_polynomial)) (flip m h) k
    all =
        ap (λ (p : Coefficients). product p (flip m h) k) (λ i j. flip-first n f j i)
        ∙ plus-product (flip n (without_constant f)) (times_q_power (suc n) (scaled (f zero) one_polynomial)) (flip m h) k

    sum : flip (suc (n + m)) (times_q (product (without_constant f) h)) k ≡ product (flip n (without_constant f)) (flip m h) k
        → flip (suc (n + m)) (scaled (f zero) h) k +ℤ flip (suc (n + m)) (times_q (product (without_constant f) h)) k
        ≡ product (flip (suc n) f) (flip m h) k
    sum rest = omega (arith, ints, constant, rest, all)
