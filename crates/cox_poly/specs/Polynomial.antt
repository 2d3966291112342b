-- Polynomials in q over the integers, as lists of coefficients from the constant one up.
-- `coefficient p` is such a polynomial as a function (Coefficients.antt).
use Rattle.std.specs.Prelude.{◌≡◌, ◌≢◌, ℕ, ◌+◌, ◌-◌, ◌^◌, ◌<◌, ◌≤◌, List, length, slice_index_or}
use Rattle.std.specs.Prelude.{ℤ, pos, unsigned_abs}
use Rattle.cox_poly.specs.Coefficients.{plus}
use Rattle.cox_poly.specs.Products.{times_q_power}
use Rattle.cox_poly.specs.Multiples.{scaled}

-- the coefficient of q^k, which is 0 past the end of the list
abbrev pub coefficient : List ℤ → ℕ → ℤ
coefficient p k = slice_index_or p k (pos 0)

-- no trailing zero: the last coefficient of a list that has one is not 0
abbrev pub IsPolynomial : List ℤ → Type 0
IsPolynomial p = 0 < length p → coefficient p (length p - 1) ≢ pos 0

-- equal at each power of q
abbrev pub SameCoefficients : List ℤ → List ℤ → Type 0
SameCoefficients p r = (k : ℕ) → coefficient p k ≡ coefficient r k

-- no term of degree n or above; the zero polynomial has a degree below every n
abbrev pub HasDegreeBelow : List ℤ → ℕ → Type 0
HasDegreeBelow p n = (k : ℕ) → n ≤ k → coefficient p k ≡ pos 0

-- d is the greatest degree of a term
pub record IsDegree (p : List ℤ) (d : ℕ) : Type 0 where
  pub leading : coefficient p d ≢ pos 0
  pub above : HasDegreeBelow p (d + 1)

-- each coefficient has 64 bits
abbrev pub HasSmallCoefficients : List ℤ → Type 0
HasSmallCoefficients p = (k : ℕ) → unsigned_abs (coefficient p k) ≤ 2 ^ 63

-- what the code can hold: no trailing zero, a degree of 32 bits, and coefficients of 64
pub record IsStorable (p : List ℤ) : Type 0 where
  pub trimmed : IsPolynomial p
  pub short : length p ≤ 2 ^ 32
  pub small : HasSmallCoefficients p

-- n is how long the list is without its trailing zeros
pub record IsTrimmedLength (p : List ℤ) (n : ℕ) : Type 0 where
  pub within : n ≤ length p
  pub last : 0 < n → coefficient p (n - 1) ≢ pos 0
  pub zeros : HasDegreeBelow p n

-- the coefficient of q^k in p + c q^n r
abbrev pub coefficient_after : List ℤ → List ℤ → ℤ → ℕ → ℕ → ℤ
coefficient_after p r c n k = plus (coefficient p) (scaled c (times_q_power n (coefficient r))) k
