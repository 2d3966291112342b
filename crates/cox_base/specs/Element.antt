-- Words and the elements that they name. The generator s acts on integer vectors by e(t) -> e(t) - a(s,t) e(s), a
-- word by the product of the matrices of its letters, and two words name one element where their matrices are equal
-- (Humphreys 5.3, 5.4: this action is faithful).
use Rattle.std.specs.Prelude.{◌≡◌, ℕ, zero, suc, ◌==◌, if◌then◌else◌, List, [], ◌∷◌, ℤ, pos, ◌+ℤ◌, ◌-ℤ◌, ◌*ℤ◌}
use Rattle.cox_base.specs.Matrix.{IsLetter}
use Rattle.cox_base.specs.IntegerMatrix.{IntegerMatrix}

-- a matrix of integers; row i and column t are letters of the rank
abbrev pub Matrix : Type 0
Matrix = ℕ → ℕ → ℤ

-- f 1 + .. + f n
unfoldable pub sum_to : ℕ → (ℕ → ℤ) → ℤ
sum_to zero f = pos 0
sum_to (suc n) f = sum_to n f +ℤ f (suc n)

unfoldable pub identity : Matrix
identity i t = if i == t then pos 1 else pos 0

-- the product of matrices of rank n
unfoldable pub matrix_product : ℕ → Matrix → Matrix → Matrix
matrix_product n M N i t = sum_to n (λ k. M i k *ℤ N k t)

-- M(s): the matrix of e(t) -> e(t) - a(s,t) e(s)
unfoldable pub generator_matrix : IntegerMatrix → ℕ → Matrix
generator_matrix A s i t = identity i t -ℤ (A.entry s t *ℤ identity i s)

-- M(u): the product of the matrices of the letters of u, in order
unfoldable pub matrix : IntegerMatrix → List ℕ → Matrix
matrix A [] = identity
matrix A (s ∷ u) = matrix_product A.rank (generator_matrix A s) (matrix A u)

-- u and v name one element: M(u) = M(v), row by row and column by column
pub record SameElement (A : IntegerMatrix) (u v : List ℕ) : Type 0 where
  pub equal : (i t : ℕ) → IsLetter A.rank i → IsLetter A.rank t → matrix A u i t ≡ matrix A v i t
