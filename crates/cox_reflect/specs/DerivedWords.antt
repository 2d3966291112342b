-- Words made of other words: a reflection, and a word without one of its letters. Words themselves are lists of letters (cox_base).
use Rattle.std.specs.Prelude.{ℕ, List, ◌∷◌, ◌++◌, reverse}

-- y s y^-1, a word for a reflection
unfoldable pub reflection : List ℕ → ℕ → List ℕ
reflection y s = y ++ s ∷ reverse y

-- v is u without one of its letters
pub data IsWithoutOne : List ℕ → List ℕ → Type 0 where
  this_one : {s : ℕ} {u : List ℕ} → IsWithoutOne u (s ∷ u)
  later_one : {s : ℕ} {v u : List ℕ} → IsWithoutOne v u → IsWithoutOne (s ∷ v) (s ∷ u)
