-- Sets of letters by bits: bit k is that of the letter k + 1.
use Rattle.std.specs.Prelude.{◌≡◌, ℕ, ◌+◌, ◌↔◌, List, IsBitSet}
use Rattle.cox_base.specs.Matrix.{IsLetter}
use Rattle.cox_base.specs.IntegerMatrix.{IntegerMatrix}
use Rattle.cox_base.specs.Descents.{IsLeftDescent, IsRightDescent}

-- each letter of the one set is in the other
abbrev pub IsSubset : ℕ → ℕ → Type 0
IsSubset wanted present = (k : ℕ) → IsBitSet wanted k → IsBitSet present k

-- the letter s is in the one set and not in the other
pub record IsMissing (wanted present s : ℕ) : Type 0 where
  pub bit : ℕ
  pub letter : s ≡ bit + 1
  pub among : IsBitSet wanted bit
  pub lacks : ¬ IsBitSet present bit

-- each letter of the set is one of the rank
abbrev pub AreLetters : ℕ → ℕ → Type 0
AreLetters rank set = (k : ℕ) → IsBitSet set k → IsLetter rank (k + 1)

-- the set of the left descents of u, and that of its right descents
abbrev pub AreLeftDescents : IntegerMatrix → List ℕ → ℕ → Type 0
AreLeftDescents A u set = (k : ℕ) → IsBitSet set k ↔ IsLeftDescent A u (k + 1)

abbrev pub AreRightDescents : IntegerMatrix → List ℕ → ℕ → Type 0
AreRightDescents A u set = (k : ℕ) → IsBitSet set k ↔ IsRightDescent A u (k + 1)
