-- Which rows the recursion by least left descents asks for.
use Rattle.std.specs.Prelude.{ℕ, List, ◌∷◌, ℤ}
use Rattle.cox_base.specs.declared.side.Side.TheVariants.{Left}
use Rattle.cox_base.specs.IntegerMatrix.{IntegerMatrix}
use Rattle.cox_base.specs.Element.{SameElement}
use Rattle.cox_reflect.specs.LeastDescent.{IsLeastLeftDescent}
use Rattle.cox_hecke.specs.Step.{IsCorrection}

-- Need(w), a set of elements, each given by any of its words: w itself; and for each z in it with the least left descent s, sz and the
-- elements that correct the step from sz to z.
pub data IsNeeded (A : IntegerMatrix) (w : List ℕ) : List ℕ → Type 0 where
  itself : {z : List ℕ} → SameElement A z w → IsNeeded A w z
  shorter : {y z : List ℕ} {s : ℕ} → IsNeeded A w z → IsLeastLeftDescent A z s → SameElement A y (s ∷ z) → IsNeeded A w y
  corrected : {u z : List ℕ} {s : ℕ} {m : ℤ} → IsNeeded A w z → IsLeastLeftDescent A z s → IsCorrection Left A s (s ∷ z) u m
      → IsNeeded A w u
