-- How many polynomials a row has.
use Rattle.std.specs.Prelude.{◌≡◌, ◌≢◌, ℕ, ◌<◌, List, length, ℤ}
use Rattle.cox_base.specs.IntegerMatrix.{IntegerMatrix}
use Rattle.cox_base.specs.Bruhat.{IsBelow}
use Rattle.cox_poly.specs.Polynomial.{coefficient, IsPolynomial}
use Rattle.cox_hecke.specs.Row.{IsKazhdanLusztig}
use Rattle.cox_row.specs.Polynomials.{polynomial_at}

-- p is P(x,w) for some x ≤ w
pub record IsPolynomialOf (A : IntegerMatrix) (w : List ℕ) (p : List ℤ) : Type 0 where
  pub trimmed : IsPolynomial p
  pub x : List ℕ
  pub below : IsBelow A x w
  pub is : IsKazhdanLusztig A x w (coefficient p)

-- the polynomials P(x,w) with x ≤ w, each once
pub record ArePolynomialsOf (A : IntegerMatrix) (w : List ℕ) (list : List (List ℤ)) : Type 0 where
  pub once : (i j : ℕ) → i < j → j < length list → polynomial_at list i ≢ polynomial_at list j
  pub each : (j : ℕ) → j < length list → IsPolynomialOf A w (polynomial_at list j)
  pub whole : (p : List ℤ) → IsPolynomialOf A w p → (j : ℕ) × (j < length list) × (polynomial_at list j ≡ p)

-- there are exactly n of them
abbrev pub HasDistinctPolynomials : IntegerMatrix → List ℕ → ℕ → Type 0
HasDistinctPolynomials A w n = (list : List (List ℤ)) × ArePolynomialsOf A w list × (length list ≡ n)
