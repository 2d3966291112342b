-- Products of polynomials as coefficient functions.
use Rattle.std.proofs.Common.{◌≡◌, ℕ, zero, suc, ◌+◌, ◌≤◌, refl, sym, ap, ◌∙◌, arith}
use Rattle.std.proofs.Common.{ℤ, pos, ◌+ℤ◌, ◌*ℤ◌, neg_ℤ}
use Rattle.std.proofs.lemmas.Int.{ints}
use lib.IntN.{*ℤ_comm}
use Rattle.cox_poly.specs.Coefficients.{Coefficients, zero_polynomial, one_polynomial, plus, times_q}
use Rattle.cox_poly.specs.Products.{times_q_power, without_constant, product}
use Rattle.cox_poly.specs.Multiples.{negated, scaled}
use Rattle.cox_poly.specs.Size.{HasDegreeAtMost}
use Rattle.cox_poly.proofs.Coefficients.{times_q_power_at, times_q_power_below, times_q_power-zero, times_q_power-suc}
use Rattle.cox_lemmas.proofs.Ring.{multiply_out, mul_assoc, mul_left_comm}

-- with 0 and 1
pub product_of_none : (f g : Coefficients) → ((j : ℕ) → f j ≡ pos 0) → (k : ℕ) → product f g k ≡ pos 0
product_of_none f g none zero = omega (arith, ints, ap (λ z. z *ℤ g zero) (none zero))
product_of_none f g none (suc k) =
    omega (arith, ints, ap (λ z. z *ℤ g (suc k)) (none zero), product_of_none (without_constant f) g (λ j. none (suc j)) k)

pub zero-product : (g : Coefficients) (k : ℕ) → product zero_polynomial g k ≡ pos 0
zero-product g = product_of_none zero_polynomial g (λ j. refl)

pub product-zero : (f : Coefficients) (k : ℕ) → product f zero_polynomial k ≡ pos 0
product-zero f zero = omega (arith, ints)
product-zero f (suc k) = omega (arith, ints, product-zero (without_constant f) k)

pub one-product : (g : Coefficients) (k : ℕ) → product one_polynomial g k ≡ g k
one-product g zero = omega (arith, ints)
one-product g (suc k) = omega (arith, ints, zero-product g k)

pub product-one : (f : Coefficients) (k : ℕ) → product f one_polynomial k ≡ f k
product-one f zero = omega (arith, ints)
product-one f (suc k) = omega (arith, ints, product-one (without_constant f) k)

-- with sums, negatives and multiples
pub product-plus : (f g h : Coefficients) (k : ℕ) → product f (plus g h) k ≡ product f g k +ℤ product f h k
product-plus f g h zero = simp multiply_out (omega (arith, ints))
product-plus f g h (suc k) = simp multiply_out (omega (arith, ints, product-plus (without_constant f) g h k))

pub plus-product : (f g h : Coefficients) (k : ℕ) → product (plus f g) h k ≡ product f h k +ℤ product g h k
plus-product f g h zero = simp multiply_out (omega (arith, ints))
plus-product f g h (suc k) = simp multiply_out (omega (arith, ints, plus-product (without_constant f) (without_constant g) h k))

pub product-negated : (f g : Coefficients) (k : ℕ) → product f (negated g) k ≡ neg_ℤ (product f g k)
product-negated f g zero = simp multiply_out (omega (arith, ints))
product-negated f g (suc k) = simp multiply_out (omega (arith, ints, product-negated (without_constant f) g k))

pub negated-product : (f g : Coefficients) (k : ℕ) → product (negated f) g k ≡ neg_ℤ (product f g k)
negated-product f g zero = simp multiply_out (omega (arith, ints))
negated-product f g (suc k) = simp multiply_out (omega (arith, ints, negated-product (without_constant f) g k))

pub product-scaled : (c : ℤ) (f g : Coefficients) (k : ℕ) → product f (scaled c g) k ≡ c *ℤ product f g k
product-scaled c f g zero = mul_left_comm (f zero) c (g zero)
product-scaled c f g (suc k) = simp multiply_out
    (omega (arith, ints, mul_left_comm (f zero) c (g (suc k)), product-scaled c (without_constant f) g k))

pub scaled-product : (c : ℤ) (f g : Coefficients) (k : ℕ) → product (scaled c f) g k ≡ c *ℤ product f g k
scaled-product c f g zero = simp multiply_out
scaled-product c f g (suc k) = simp multiply_out (omega (arith, ints, scaled-product c (without_constant f) g k))

-- with multiples of q
pub product-times_q : (f g : Coefficients) (k : ℕ) → product f (times_q g) k ≡ times_q (product f g) k
product-times_q f g zero = omega (arith, ints)
product-times_q f g (suc zero) = omega (arith, ints)
product-times_q f g (suc (suc k)) = omega (arith, ints, product-times_q (without_constant f) g (suc k))

pub times_q-product : (f g : Coefficients) (k : ℕ) → product (times_q f) g k ≡ times_q (product f g) k
times_q-product f g zero = omega (arith, ints)
times_q-product f g (suc k) = omega (arith, ints)

pub times_q_power-product : (n : ℕ) (f g : Coefficients) (k : ℕ) → product (times_q_power n f) g k ≡ times_q_power n (product f g) k
times_q_power-product zero f g k =
    ap (λ (p : Coefficients). product p g k) (times_q_power-zero f)
    ∙ ap (λ (p : Coefficients). p k) (sym (times_q_power-zero (product f g)))
times_q_power-product (suc n) f g k =
    ap (λ (p : Coefficients). product p g k) (times_q_power-suc n f) ∙ times_q-product (times_q_power n f) g k
    ∙ ap (λ (p : Coefficients). times_q p k) (λ i j. times_q_power-product n f g j i)
    ∙ ap (λ (p : Coefficients). p k) (sym (times_q_power-suc n (product f g)))

-- by the last term of f, so f g = g f
product-last : (f g : Coefficients) (k : ℕ) → product f g (suc k) ≡ product f (without_constant g) k +ℤ (f (suc k) *ℤ g zero)
product-last f g zero = refl
product-last f g (suc k) = omega (arith, ints, product-last (without_constant f) g k)

pub product-comm : (f g : Coefficients) (k : ℕ) → product f g k ≡ product g f k
product-comm f g zero = *ℤ_comm (f zero) (g zero)
product-comm f g (suc k) =
    omega (arith, ints, product-last g f k, product-comm (without_constant f) g k, *ℤ_comm (f zero) (g (suc k)))

-- by the constant term of f and the rest, so (f g) h = f (g h)
pub product-parts : (f g : Coefficients) (k : ℕ)
    → product f g k ≡ scaled (f zero) g k +ℤ times_q (product (without_constant f) g) k
product-parts f g zero = omega (arith, ints)
product-parts f g (suc k) = refl

pub product-associative : (f g h : Coefficients) (k : ℕ) → product (product f g) h k ≡ product f (product g h) k
product-associative f g h zero = mul_assoc (f zero) (g zero) (h zero)
product-associative f g h (suc k) =
    ap (λ (p : Coefficients). product p h (suc k)) (λ i j. product-parts f g j i)
    ∙ plus-product (scaled (f zero) g) (times_q (product (without_constant f) g)) h (suc k)
    ∙ (λ i. scaled-product (f zero) g h (suc k) i
    +ℤ (times_q-product (product (without_constant f) g) h (suc k) ∙ product-associative (without_constant f) g h k) i)

-- the terms of f below q^n
abbrev pub terms_below : ℕ → Coefficients → Coefficients
terms_below zero f k = pos 0
terms_below (suc n) f zero = f zero
terms_below (suc n) f (suc k) = terms_below n (without_constant f) k

-- one term more in front
pub terms_below-product : (f g : Coefficients) (i k : ℕ) → product (terms_below (suc i) f) g k
    ≡ product (terms_below i f) g k +ℤ f i *ℤ times_q_power i g k
terms_below-product f g zero zero = omega (arith, ints)
terms_below-product f g zero (suc k) =
    omega (arith, ints, zero-product g k, ap (λ z. f zero *ℤ z) (times_q_power_at g 0 (suc k) (suc k) (omega arith)))
terms_below-product f g (suc i) zero = omega (arith, ints, ap (λ z. f (suc i) *ℤ z) (times_q_power_below g (suc i) 0 (omega arith)))
terms_below-product f g (suc i) (suc k) =
    omega (arith, ints, terms_below-product (without_constant f) g i k, ap (λ h. f (suc i) *ℤ h (suc k)) (times_q_power-suc i g))

-- where it leaves out no term it is the whole
pub terms_below-all : (f : Coefficients) (n : ℕ) → ((k : ℕ) → n ≤ k → f k ≡ pos 0) → (k : ℕ) → terms_below n f k ≡ f k
terms_below-all f zero none k = sym (none k (omega arith))
terms_below-all f (suc n) none zero = refl
terms_below-all f (suc n) none (suc k) = terms_below-all (without_constant f) n (λ j h. none (suc j) (omega arith)) k

-- the degrees add up
pub HasDegreeAtMost-product : (f g : Coefficients) (n m : ℕ) → HasDegreeAtMost f n → HasDegreeAtMost g m
    → HasDegreeAtMost (product f g) (n + m)
HasDegreeAtMost-product f g n m f_low g_low zero h = absurd (omega arith)
HasDegreeAtMost-product f g zero m f_low g_low (suc k) h =
    omega (
      arith,
      ints,
      ap (λ z. f zero *ℤ z) (g_low (suc k) (omega arith)),
      product_of_none (without_constant f) g
          (λ j. f_low (suc j) (omega arith)) k,
    )
HasDegreeAtMost-product f g (suc n) m f_low g_low (suc k) h =
    omega (
      arith,
      ints,
      ap (λ z. f zero *ℤ z) (g_low (suc k) (omega arith)),
      HasDegreeAtMost-product (without_constant f) g n m
          (λ j lt. f_low (suc j) (omega arith)) g_low k (omega arith),
    )
