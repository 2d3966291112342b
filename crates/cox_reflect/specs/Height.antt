-- Heights as the code keeps them, one number for each letter: which word they are the heights of.
use Rattle.std.specs.Prelude.{◌≡◌, ℕ, ◌≤◌, List, ◌∷◌, ℤ}
use Rattle.cox_base.specs.Matrix.{IsLetter}
use Rattle.cox_base.specs.IntegerMatrix.{IntegerMatrix}
use Rattle.cox_base.specs.Length.{word_length}
use Rattle.cox_reflect.specs.RootHeight.{at_letter, height}

-- these are the heights of u: for each letter t that of u^-1 e(t)
pub record AreHeights (A : IntegerMatrix) (u : List ℕ) (heights : List ℤ) : Type 0 where
  pub each : (t : ℕ) → IsLetter A.rank t → at_letter heights t ≡ height A u t

-- they are the heights of some element of at most so many letters
pub record AreOfShortElement (A : IntegerMatrix) (limit : ℕ) (heights : List ℤ) : Type 0 where
  pub word : List ℕ
  pub heights_of : AreHeights A word heights
  pub short : word_length A word ≤ limit

-- they are the heights of a word u, and u and s u name elements of at most so many letters
pub record AreShortWith (A : IntegerMatrix) (limit s : ℕ) (heights : List ℤ) : Type 0 where
  pub word : List ℕ
  pub heights_of : AreHeights A word heights
  pub short : word_length A word ≤ limit
  pub next_short : word_length A (s ∷ word) ≤ limit
