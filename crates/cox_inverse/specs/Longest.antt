-- The longest element of a finite group.
use Rattle.std.specs.Prelude.{ℕ, List}
use Rattle.cox_base.specs.IntegerMatrix.{IntegerMatrix}
use Rattle.cox_base.specs.Matrix.{IsLetter, IsWord}
use Rattle.cox_base.specs.Descents.{IsRightDescent}

-- each letter is a right descent: no element is longer (Humphreys 1.8)
pub record IsLongest (A : IntegerMatrix) (longest : List ℕ) : Type 0 where
  pub letters : IsWord A.rank longest
  pub descents : (s : ℕ) → IsLetter A.rank s → IsRightDescent A longest s
