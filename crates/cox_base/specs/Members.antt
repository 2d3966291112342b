-- Elements as their normal forms, and the members of an interval.
use Rattle.std.specs.Prelude.{◌≡◌, ℕ, List}
use Rattle.cox_base.specs.IntegerMatrix.{IntegerMatrix}
use Rattle.cox_base.specs.ShortLex.{normal_form}
use Rattle.cox_base.specs.Bruhat.{IsBelow}

-- an element, as its normal form
pub record IsElement (A : IntegerMatrix) (word : List ℕ) : Type 0 where
  pub normal : normal_form A word ≡ word

-- an element x with x ≤ w
abbrev pub IsInInterval : IntegerMatrix → List ℕ → List ℕ → Type 0
IsInInterval A w word = record { element : IsElement A word; below : IsBelow A word w }
