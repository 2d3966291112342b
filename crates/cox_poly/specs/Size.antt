-- How large a polynomial is: bounds of its degree, and of the sum of its absolute coefficients.
use Rattle.std.specs.Prelude.{◌≡◌, ℕ, zero, suc, ◌+◌, ◌<◌, ◌≤◌, pos, unsigned_abs}
use Rattle.cox_poly.specs.Coefficients.{Coefficients}
use Rattle.cox_poly.specs.Products.{without_constant}

-- no term of f has a degree above n; 0 meets every bound
abbrev pub HasDegreeAtMost : Coefficients → ℕ → Type 0
HasDegreeAtMost f n = (k : ℕ) → n < k → f k ≡ pos 0

-- the sum of the absolute values of the coefficients below q^n
abbrev pub absolute_sum : ℕ → Coefficients → ℕ
absolute_sum zero f = 0
absolute_sum (suc n) f = unsigned_abs (f zero) + absolute_sum n (without_constant f)

-- the absolute values of the coefficients add up to at most m
abbrev pub HasNormAtMost : Coefficients → ℕ → Type 0
HasNormAtMost f m = (n : ℕ) → absolute_sum n f ≤ m
