-- The height of a root, from which descents are read. A root has all coordinates at least 0 or all at most 0, so the sign of its height
-- tells which, and that tells whether the letter is a descent (Humphreys 5.4).
use Rattle.std.specs.Prelude.{ℕ, ◌-◌, List, reverse, slice_index_or, ℤ, pos}
use Rattle.cox_base.specs.IntegerMatrix.{IntegerMatrix}
use Rattle.cox_base.specs.Element.{sum_to, matrix}

-- what a list has for a letter: its first number for the letter 1, its second for 2, and so on
abbrev pub at_letter : List ℤ → ℕ → ℤ
at_letter list t = slice_index_or list (t - 1) (pos 0)

-- the height of the root u^-1 e(t): the sum of its coordinates, which are the column t of the matrix of the reversed word
unfoldable pub height : IntegerMatrix → List ℕ → ℕ → ℤ
height A u t = sum_to A.rank (λ i. matrix A (reverse u) i t)
