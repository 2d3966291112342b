-- The members that a context has when it grows by an interval.
use Rattle.std.specs.Prelude.{◌⊎◌, ℕ, List, Contains}
use Rattle.cox_base.specs.IntegerMatrix.{IntegerMatrix}
use Rattle.cox_base.specs.Bruhat.{IsBelow}
use Rattle.cox_base.specs.Members.{IsElement}

-- an element x with x ≤ w, or one of the words
pub record IsInUnion (A : IntegerMatrix) (w : List ℕ) (words : List (List ℕ)) (word : List ℕ) : Type 0 where
  pub element : IsElement A word
  pub either : IsBelow A word w ⊎ Contains words word
