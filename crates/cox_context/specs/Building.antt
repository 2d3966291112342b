-- What a builder of a context is, for proofs: what contracts see of it, and what holds of its tables.
use Rattle.std.specs.Prelude.{ℕ, ◌≤◌, List, length, Option}
use Rattle.arrayvec.specs.ArrayVec.{ArrayVec}
use Rattle.cox_base.specs.Matrix.{CoxeterMatrix}
use Rattle.cox_base.specs.Admissible.{IsCoxeterMatrix}
use Rattle.cox_base.specs.IntegerMatrix.{integer_matrix}
use Rattle.cox_context.specs.declared.members.TheConstants.{MAX_MEMBERS}
use Rattle.cox_context.specs.Closed.{IsClosed}
use Rattle.cox_context.specs.WantedMembers.{IsMember, IsTop}
use Rattle.cox_context.specs.Shifts.{AreLeftShifts}
use Rattle.cox_context.specs.Growth.{IsGrown, IsGrowing, AreBelowTop}

-- what members are looked for: the group, the top, and how many there may be
pub record Search : Type 0 where
  pub matrix : CoxeterMatrix
  pub top : Option (ArrayVec ℕ)
  pub limit : ℕ

-- what contracts see of a builder: what it looks for, and the members that were found
pub record Building : Type 0 where
  pub search : Search
  pub members : List (List ℕ)

-- an element that is looked for
abbrev pub IsWanted : Search → List ℕ → Type 0
IsWanted search = IsMember (integer_matrix search.matrix) search.top

-- it has those of at most k letters, and those of k letters begin at low
abbrev pub HasUpTo : Building → ℕ → ℕ → Type 0
HasUpTo b k low = IsGrown b.search.matrix.rank (IsWanted b.search) k low b.members

-- and of the next length those that begin with a letter before s, or with s and come from a member before j
abbrev pub HasChildren : Building → ℕ → ℕ → ℕ → ℕ → ℕ → Type 0
HasChildren b k low high s j = IsGrowing b.search.matrix.rank (IsWanted b.search) k low high s j b.members

-- the members are closed downwards and below the top, and the table is that of their left shifts
pub record IsBuilder (search : Search) (members : List (List ℕ)) (table : List ℕ) : Type 0 where
  pub matrix : IsCoxeterMatrix search.matrix
  pub top : IsTop (integer_matrix search.matrix) search.top
  pub limit : search.limit ≤ MAX_MEMBERS
  pub room : length members ≤ search.limit
  pub closed : IsClosed (integer_matrix search.matrix) members
  pub left : AreLeftShifts (integer_matrix search.matrix) members table
  pub below : AreBelowTop (integer_matrix search.matrix) search.top members
