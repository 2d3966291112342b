-- Contexts that are whole finite groups.
use Rattle.std.specs.Prelude.{ℕ, ◌<◌, List, ◌++◌, length, ℤ, pos, ◌<ℤ◌, unsigned_abs, Some}
use Rattle.cox_base.specs.IntegerMatrix.{integer_matrix}
use Rattle.cox_base.specs.ShortLex.{normal_form}
use Rattle.cox_poly.specs.Polynomial.{coefficient}
use Rattle.cox_context.specs.Closed.{Elements}
use Rattle.cox_context.specs.Numbers.{word_at}
use Rattle.cox_context.specs.Numbering.{IsNumberOf}
use Rattle.cox_row.specs.Polynomials.{polynomial_at}
use Rattle.cox_row_builder.specs.LargeMembers.{IsWithinLimit}
use Rattle.cox_inverse.specs.Longest.{IsLongest}
use Rattle.cox_inverse.specs.declared.finite.LongestElement.{LongestElement}

-- the member with this number is the longest element, so each element is a member
pub record IsLongestMember (e : Elements) (longest : ℕ) : Type 0 where
  pub member : longest < length e.members
  pub is : IsLongest (integer_matrix e.matrix) (word_at e.members longest)

-- inverse polynomials can be read off the rows: w0 is known, the row of each member is there, and no coefficient is above the limit
pub record IsReadable (e : Elements) (holds : ℕ → Type 0) (limit : ℤ) (w0 : LongestElement) : Type 0 where
  pub longest : IsLongestMember e w0.longest
  pub there : (i : ℕ) → i < length e.members → holds i
  pub small : (x : List ℕ) (i : ℕ) → i < length e.members → IsWithinLimit (integer_matrix e.matrix) limit x (word_at e.members i)

-- i is the number of w0 x
abbrev pub IsTurned : Elements → ℕ → ℕ → ℕ → Type 0
IsTurned e longest x i =
    IsNumberOf e.members (normal_form (integer_matrix e.matrix) (word_at e.members longest ++ word_at e.members x)) (Some i)

-- some coefficient of a polynomial of the pool is above the limit in absolute value
pub record HasLarge (limit : ℤ) (pool : List (List ℤ)) : Type 0 where
  pub place : ℕ
  pub within : place < length pool
  pub degree : ℕ
  pub above : limit <ℤ pos (unsigned_abs (coefficient (polynomial_at pool place) degree))
