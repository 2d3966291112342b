-- Chains of reflections, which give the Bruhat order too (Humphreys 5.9).
use Rattle.std.specs.Prelude.{ℕ, ◌<◌, List, ◌++◌}
use Rattle.cox_base.specs.Matrix.{IsLetter}
use Rattle.cox_base.specs.IntegerMatrix.{IntegerMatrix}
use Rattle.cox_base.specs.Element.{SameElement}
use Rattle.cox_base.specs.Length.{word_length}
use Rattle.cox_reflect.specs.DerivedWords.{reflection}

-- x = w y s y^-1 for a word y and a letter s, and x is shorter than w
pub record IsReflectionStep (A : IntegerMatrix) (x w : List ℕ) : Type 0 where
  pub y : List ℕ
  pub s : ℕ
  pub letter : IsLetter A.rank s
  pub same : SameElement A (w ++ reflection y s) x
  pub shorter : word_length A x < word_length A w

-- a chain of steps leads from x up to w; no step where both name one element
pub data IsChain (A : IntegerMatrix) (x : List ℕ) : List ℕ → Type 0 where
  no_step : {w : List ℕ} → SameElement A x w → IsChain A x w
  last_step : {v w : List ℕ} → IsChain A x v → IsReflectionStep A v w → IsChain A x w
