-- The polynomials of a row: a pool that has each of them once, and for each extremal element a place in it.
use Rattle.std.specs.Prelude.{◌≡◌, ◌≢◌, ℕ, ◌<◌, ◌≤◌, List, [], length, slice_index_or, ℤ}
use Rattle.cox_base.specs.IntegerMatrix.{IntegerMatrix}
use Rattle.cox_poly.specs.Polynomial.{coefficient, IsPolynomial}
use Rattle.cox_hecke.specs.Row.{IsKazhdanLusztig}
use Rattle.cox_context.specs.Numbers.{word_at}
use Rattle.cox_row.specs.Rising.{number_at, AreWithin}

-- the polynomial at a place
abbrev pub polynomial_at : List (List ℤ) → ℕ → List ℤ
polynomial_at pool j = slice_index_or pool j []

-- different polynomials, and each is at the place of some extremal element
pub record IsPool (places : List ℕ) (pool : List (List ℤ)) : Type 0 where
  pub trimmed : (j : ℕ) → j < length pool → IsPolynomial (polynomial_at pool j)
  pub once : (i j : ℕ) → i < j → j < length pool → polynomial_at pool i ≢ polynomial_at pool j
  pub used : (j : ℕ) → j < length pool → (k : ℕ) × (k < length places) × (number_at places k ≡ j)
  pub few : length pool ≤ length places

-- for each of the numbers, those of some x, the place of P(x,w)
pub record HavePolynomials (A : IntegerMatrix) (members : List (List ℕ)) (w : List ℕ) (numbers places : List ℕ) (pool : List (List ℤ))
    : Type 0 where
  pub size : length places ≡ length numbers
  pub placed : AreWithin (length pool) places
  pub distinct : IsPool places pool
  pub value : (k : ℕ) → k < length numbers
      → IsKazhdanLusztig A (word_at members (number_at numbers k)) w (coefficient (polynomial_at pool (number_at places k)))
