-- Words of an element that come from another word by leaving letters out.
use Rattle.std.specs.Prelude.{ℕ, List}
use Rattle.cox_base.specs.IntegerMatrix.{IntegerMatrix}
use Rattle.cox_base.specs.Element.{SameElement}
use Rattle.cox_reflect.specs.DerivedWords.{IsWithoutOne}

-- u without one of its letters names the element of x
pub record LeavesOneOut (A : IntegerMatrix) (u x : List ℕ) : Type 0 where
  pub rest : List ℕ
  pub without : IsWithoutOne rest u
  pub same : SameElement A x rest

-- u without two of its letters names the element of x
pub record LeavesTwoOut (A : IntegerMatrix) (u x : List ℕ) : Type 0 where
  pub between : List ℕ
  pub rest : List ℕ
  pub first : IsWithoutOne between u
  pub second : IsWithoutOne rest between
  pub same : SameElement A x rest
