-- Products of polynomials, as functions from degrees to coefficients.
use Rattle.std.specs.Prelude.{ℕ, zero, suc, ◌-◌, if◌then◌else◌, nat_le, pos, ◌+ℤ◌, ◌*ℤ◌}
use Rattle.cox_poly.specs.Coefficients.{Coefficients}

-- q^n f: at k the coefficient of f at k - n, and 0 below n
abbrev pub times_q_power : ℕ → Coefficients → Coefficients
times_q_power n f k = if nat_le n k then f (k - n) else pos 0

-- (f - f(0)) / q
abbrev pub without_constant : Coefficients → Coefficients
without_constant f k = f (suc k)

-- f g: at k the sum of f(i) g(k - i)
abbrev pub product : Coefficients → Coefficients → Coefficients
product f g zero = f zero *ℤ g zero
product f g (suc k) = f zero *ℤ g (suc k) +ℤ product (without_constant f) g k

-- q^n f(1/q), for f of a degree of at most n: at k the coefficient of f at n - k, and 0 above n
abbrev pub flip : ℕ → Coefficients → Coefficients
flip n f k = if nat_le k n then f (n - k) else pos 0
