-- The root w e(s), column s of M(w), and its sign (Humphreys 5.4).
use Rattle.std.specs.Prelude.{◌≡◌, ℕ, List, pos, ◌≤ℤ◌}
use Rattle.cox_base.specs.Matrix.{IsLetter}
use Rattle.cox_base.specs.IntegerMatrix.{IntegerMatrix}
use Rattle.cox_base.specs.Element.{matrix}

-- each coordinate of w e(s) is at least 0
pub record IsNonnegativeRoot (A : IntegerMatrix) (w : List ℕ) (s : ℕ) : Type 0 where
  pub coordinate : (i : ℕ) → IsLetter A.rank i → pos 0 ≤ℤ matrix A w i s

-- each coordinate of w e(s) is at most 0
pub record IsNonpositiveRoot (A : IntegerMatrix) (w : List ℕ) (s : ℕ) : Type 0 where
  pub coordinate : (i : ℕ) → IsLetter A.rank i → matrix A w i s ≤ℤ pos 0

-- each coordinate of w e(s) is 0
pub record IsZeroRoot (A : IntegerMatrix) (w : List ℕ) (s : ℕ) : Type 0 where
  pub coordinate : (i : ℕ) → IsLetter A.rank i → matrix A w i s ≡ pos 0
