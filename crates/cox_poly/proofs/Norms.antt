-- Sums of absolute coefficients.
use Rattle.std.proofs.Common.{subst, inl, inr, ◌-◌, ◌≡◌, ℕ, zero, suc, ◌+◌, ◌*◌, ◌≤◌, arith}
use Rattle.std.proofs.Common.{ℤ, unsigned_abs}
use Rattle.std.proofs.lemmas.Int.{ints, unsigned_abs-mul}
use Rattle.std.proofs.Math.Nat.{mul-le-mul_left}
use Rattle.cox_poly.proofs.Coefficients.{times_q_power_at, times_q_power_below}
use Rattle.std.proofs.lemmas.Bool.{cases_lt}
use Rattle.cox_poly.specs.Coefficients.{Coefficients, zero_polynomial, one_polynomial, plus, times_q, times_q_less_one}
use Rattle.cox_poly.specs.Products.{times_q_power, without_constant, product}
use Rattle.cox_poly.specs.Multiples.{minus, scaled}
use Rattle.cox_poly.specs.Size.{absolute_sum, HasNormAtMost}

-- of sums, differences and multiples
pub absolute_sum-plus : (n : ℕ) (f g : Coefficients) → absolute_sum n (plus f g) ≤ absolute_sum n f + absolute_sum n g
absolute_sum-plus zero f g = omega arith
absolute_sum-plus (suc n) f g = omega (arith, ints, absolute_sum-plus n (without_constant f) (without_constant g))

pub absolute_sum-minus : (n : ℕ) (f g : Coefficients) → absolute_sum n (minus f g) ≤ absolute_sum n f + absolute_sum n g
absolute_sum-minus zero f g = omega arith
absolute_sum-minus (suc n) f g = omega (arith, ints, absolute_sum-minus n (without_constant f) (without_constant g))

pub absolute_sum-scaled : (n : ℕ) (c : ℤ) (f : Coefficients) → absolute_sum n (scaled c f) ≡ unsigned_abs c * absolute_sum n f
absolute_sum-scaled zero c f = omega arith
absolute_sum-scaled (suc n) c f = omega (arith, unsigned_abs-mul c (f zero), absolute_sum-scaled n c (without_constant f))

-- a coefficient is no larger than a sum that has it
pub absolute_sum-above : (k : ℕ) (f : Coefficients) → unsigned_abs (f k) ≤ absolute_sum (suc k) f
absolute_sum-above zero f = omega arith
absolute_sum-above (suc k) f = omega (arith, absolute_sum-above k (without_constant f))

-- a bound is one of the coefficients alone
pub HasNormAtMost-same : (f g : Coefficients) (a : ℕ) → ((k : ℕ) → f k ≡ g k) → HasNormAtMost f a → HasNormAtMost g a
HasNormAtMost-same f g a same low = subst (λ h. HasNormAtMost h a) (λ i k. same k i) low

-- bounds of the whole sums
pub HasNormAtMost-zero : HasNormAtMost zero_polynomial 0
HasNormAtMost-zero zero = omega arith
HasNormAtMost-zero (suc n) = omega (arith, HasNormAtMost-zero n)

pub HasNormAtMost-one : HasNormAtMost one_polynomial 1
HasNormAtMost-one zero = omega arith
HasNormAtMost-one (suc n) = omega (arith, HasNormAtMost-zero n)

pub HasNormAtMost-plus : (f g : Coefficients) (a b : ℕ) → HasNormAtMost f a → HasNormAtMost g b → HasNormAtMost (plus f g) (a + b)
HasNormAtMost-plus f g a b f_low g_low n = omega (arith, absolute_sum-plus n f g, f_low n, g_low n)

pub HasNormAtMost-minus : (f g : Coefficients) (a b : ℕ) → HasNormAtMost f a → HasNormAtMost g b → HasNormAtMost (minus f g) (a + b)
HasNormAtMost-minus f g a b f_low g_low n = omega (arith, absolute_sum-minus n f g, f_low n, g_low n)

pub HasNormAtMost-times_q : (f : Coefficients) (a : ℕ) → HasNormAtMost f a → HasNormAtMost (times_q f) a
HasNormAtMost-times_q f a low zero = omega arith
HasNormAtMost-times_q f a low (suc n) = omega (arith, low n)

pub HasNormAtMost-times_q_less_one : (f : Coefficients) (a : ℕ) → HasNormAtMost f a → HasNormAtMost (times_q_less_one f) (a + a)
HasNormAtMost-times_q_less_one f a low = HasNormAtMost-minus (times_q f) f a a (HasNormAtMost-times_q f a low) low

-- no coefficient is larger
pub HasNormAtMost-coefficient : (f : Coefficients) (a : ℕ) → HasNormAtMost f a → (k : ℕ) → unsigned_abs (f k) ≤ a
HasNormAtMost-coefficient f a low k = omega (arith, absolute_sum-above k f, low (suc k))

-- and the sum of its absolute coefficients is at most the product of theirs
pub absolute_sum-product : (n : ℕ) (f g : Coefficients) (b : ℕ) → HasNormAtMost g b → absolute_sum n (product f g) ≤ absolute_sum n f * b
absolute_sum-product zero f g b low = omega arith
absolute_sum-product (suc n) f g b low =
    omega (
      arith,
      unsigned_abs-mul (f zero) (g zero),
      absolute_sum-plus n (scaled (f zero) (without_constant g)) (product (without_constant f) g),
      absolute_sum-scaled n (f zero) (without_constant g),
      mul-le-mul_left (unsigned_abs (f zero)) (low (suc n)),
      absolute_sum-product n (without_constant f) g b low,
    )

pub HasNormAtMost-product : (f g : Coefficients) (a b : ℕ) → HasNormAtMost f a → HasNormAtMost g b → HasNormAtMost (product f g) (a * b)
HasNormAtMost-product f g a b f_low g_low n = omega (arith, absolute_sum-product n f g b g_low, mul-le-mul_left b (f_low n))

-- a coefficient of f + c q^n g, as one addition to a sum makes it
pub absolute_after : (f g : Coefficients) (c : ℤ) (n k a b : ℕ) → unsigned_abs (f k) ≤ a → ((j : ℕ) → unsigned_abs (g j) ≤ b)
    → unsigned_abs (plus f (scaled c (times_q_power n g)) k) ≤ a + unsigned_abs c * b
absolute_after f g c n k a b f_low g_low = elim (cases_lt k n) [
  | inl below ↦ rw (times_q_power_below g n k below) (omega (arith, ints))
  | inr from ↦ rw (times_q_power_at g n k (k - n) (omega arith))
      (omega (arith, ints, unsigned_abs-mul c (g (k - n)), mul-le-mul_left (unsigned_abs c) (g_low (k - n))))
]
