-- For code: elements of a group as values of some type X.
use Rattle.std.specs.Prelude.{◌≡◌, ℕ, ◌≤◌, List}
use Rattle.arrayvec.specs.ArrayVec.{ArrayVec}
use Rattle.cox_base.specs.IntegerMatrix.{IntegerMatrix}
use Rattle.cox_base.specs.Bruhat.{IsBelow}
use Rattle.cox_base.specs.Length.{word_length}
use Rattle.cox_base.specs.ShortLex.{normal_form}
use Rattle.cox_reflect.specs.declared.heights.Heights.{Heights}
use Rattle.cox_reflect.specs.Height.{AreHeights}

-- which words name an element: `of A u x` says that x is the element of the word u
abbrev pub Naming : Type 0 → Type 1
Naming X = IntegerMatrix → List ℕ → X → Type 0

-- x is an element below v
pub record IsElementBelow {X : Type 0} (of : Naming X) (A : IntegerMatrix) (v : List ℕ) (x : X) : Type 0 where
  pub word : List ℕ
  pub of_word : of A word x
  pub below : IsBelow A word v

-- x is an element of at most so many letters
pub record IsShortElement {X : Type 0} (of : Naming X) (A : IntegerMatrix) (limit : ℕ) (x : X) : Type 0 where
  pub word : List ℕ
  pub of_word : of A word x
  pub short : word_length A word ≤ limit

-- an element told by its heights
abbrev pub is_of_heights : IntegerMatrix → List ℕ → Heights → Type 0
is_of_heights A u x = AreHeights A u x.values

-- an element told by its normal form
abbrev pub is_of_form : IntegerMatrix → List ℕ → ArrayVec ℕ → Type 0
is_of_form A u x = x.items ≡ normal_form A u
