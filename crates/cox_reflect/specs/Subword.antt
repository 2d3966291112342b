-- Elements that a subword names.
use Rattle.std.specs.Prelude.{ℕ, List}
use Rattle.cox_base.specs.IntegerMatrix.{IntegerMatrix}
use Rattle.cox_base.specs.Element.{SameElement}
use Rattle.cox_base.specs.Bruhat.{IsSubword}

-- some subword of u names the element of y
pub record HasSubword (A : IntegerMatrix) (u y : List ℕ) : Type 0 where
  pub word : List ℕ
  pub subword : IsSubword word u
  pub same : SameElement A word y
