-- The elements that a context is to have as members: those of a group, or those of the interval up to an element, the top.
use Rattle.std.specs.Prelude.{ℕ, List, [], Option, None, Some}
use Rattle.arrayvec.specs.ArrayVec.{ArrayVec}
use Rattle.cox_base.specs.Matrix.{IsWord}
use Rattle.cox_base.specs.IntegerMatrix.{IntegerMatrix}
use Rattle.cox_base.specs.Bruhat.{IsBelow}
use Rattle.cox_base.specs.Descents.{left_descents}
use Rattle.cox_base.specs.Reduced.{IsReduced}
use Rattle.cox_base.specs.Members.{IsElement, IsInInterval}

-- an element of the group; or, where there is a top, one below it
abbrev pub IsMember : IntegerMatrix → Option (ArrayVec ℕ) → List ℕ → Type 0
IsMember A None word = IsElement A word
IsMember A (Some top) word = IsInInterval A top.items word

-- the element of a word is below the top, where there is one
abbrev pub IsBelowTop : IntegerMatrix → Option (ArrayVec ℕ) → List ℕ → Type 0
IsBelowTop A None word = Unit {0}
IsBelowTop A (Some top) word = IsBelow A word top.items

-- the top, where there is one, is given by a reduced word
abbrev pub IsTop : IntegerMatrix → Option (ArrayVec ℕ) → Type 0
IsTop A None = Unit {0}
IsTop A (Some top) = IsWord A.rank top.items × IsReduced A top.items

-- the left descents of the top, where there is one
abbrev pub top_descents : IntegerMatrix → Option (ArrayVec ℕ) → List ℕ
top_descents A None = []
top_descents A (Some top) = left_descents A top.items
