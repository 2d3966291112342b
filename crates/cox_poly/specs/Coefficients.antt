-- Polynomials in q over the integers, as functions: at k the coefficient of q^k.
use Rattle.std.specs.Prelude.{ℕ, zero, suc, ℤ, pos, ◌+ℤ◌, ◌-ℤ◌}

abbrev pub Coefficients : Type 0
Coefficients = ℕ → ℤ

-- the polynomials 0 and 1
abbrev pub zero_polynomial : Coefficients
zero_polynomial k = pos 0

abbrev pub one_polynomial : Coefficients
one_polynomial zero = pos 1
one_polynomial (suc k) = pos 0

-- f + g
abbrev pub plus : Coefficients → Coefficients → Coefficients
plus f g k = f k +ℤ g k

-- q f
abbrev pub times_q : Coefficients → Coefficients
times_q f zero = pos 0
times_q f (suc k) = f k

-- (q - 1) f
abbrev pub times_q_less_one : Coefficients → Coefficients
times_q_less_one f k = times_q f k -ℤ f k
