-- Lists of elements to which a letter can be applied.
use Rattle.std.specs.Prelude.{◌≡◌, ℕ, ◌≤◌, List, ◌∷◌}
use Rattle.cox_base.specs.IntegerMatrix.{IntegerMatrix}
use Rattle.cox_hecke.specs.ListedElements.{occurrences}

-- no element is named twice, and with each x the words name s x
pub record IsClosedUnder (A : IntegerMatrix) (s : ℕ) (words : List (List ℕ)) : Type 0 where
  pub once : (x : List ℕ) → occurrences A x words ≤ 1
  pub closed : (x : List ℕ) → occurrences A (s ∷ x) words ≡ occurrences A x words
