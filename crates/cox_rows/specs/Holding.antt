-- A context with rows of some of its members, as contracts see it.
use Rattle.std.specs.Prelude.{◌≡◌, ◌⊎◌, ℕ, ◌<◌, List, Bool, true, false, length, map, is_some, slice_index_or, Option, IfSome}
use Rattle.std.specs.Prelude.{ℤ, pos, ◌≤ℤ◌}
use Rattle.cox_context.specs.Closed.{Elements}
use Rattle.cox_row.specs.declared.row.Row.{Row}
use Rattle.cox_row.specs.RowLists.{row_at}
use Rattle.cox_row.specs.RowOf.{IsRowAt}
use Rattle.cox_row.specs.Within.{IsRowWithin}

-- the Coxeter matrix and the members of the context, the greatest absolute value of a coefficient, which members have a row, and how many
-- polynomials were added up for the rows that were made here
pub record Holding : Type 0 where
  pub elements : Elements
  pub limit : ℤ
  pub holds : List Bool
  pub steps : ℕ

-- the row of the member with the number i is there
abbrev pub HasRow : Holding → ℕ → Type 0
HasRow h i = slice_index_or h.holds i false ≡ true

-- the row of the member with the number i, within the limits
pub record IsHeldRow (e : Elements) (limit : ℤ) (i : ℕ) (row : Row) : Type 0 where
  pub member : i < length e.members
  pub is : IsRowAt e i row
  pub within : IsRowWithin limit row

-- each row that is there is that of the member with its number, within the limits
pub record AreRows (e : Elements) (limit : ℤ) (rows : List (Option Row)) : Type 0 where
  pub least : pos 0 ≤ℤ limit
  pub each : (i : ℕ) → IfSome (row_at rows i) (IsHeldRow e limit i)

-- the rows of both lists, each at its place
pub record AreBoth (first second all : List (Option Row)) : Type 0 where
  pub from : (i : ℕ) → (row_at all i ≡ row_at first i) ⊎ (row_at all i ≡ row_at second i)
  pub first_there : (i : ℕ) → is_some (row_at first i) ≡ true → is_some (row_at all i) ≡ true
  pub second_there : (i : ℕ) → is_some (row_at second i) ≡ true → is_some (row_at all i) ≡ true

-- where there are rows
abbrev pub held : List (Option Row) → List Bool
held rows = map is_some rows
