-- What makes a row that of an element, among the members of a context.
use Rattle.std.specs.Prelude.{ℕ, List, ℤ}
use Rattle.std.specs.Arc.{arc_value}
use Rattle.cox_base.specs.IntegerMatrix.{IntegerMatrix, integer_matrix}
use Rattle.cox_context.specs.Closed.{Elements}
use Rattle.cox_context.specs.Numbers.{word_at}
use Rattle.cox_row.specs.declared.row.Row.{Row}
use Rattle.cox_row.specs.declared.row.Values.{Values}
use Rattle.cox_row.specs.ExtremalNumbers.{AreExtremal}
use Rattle.cox_row.specs.Polynomials.{HavePolynomials}
use Rattle.cox_row.specs.Mus.{AreMus}
use Rattle.cox_row.specs.Views.{ServesFor}

-- the extremal elements of v, with their polynomials
pub record AreValuesOf (A : IntegerMatrix) (members : List (List ℕ)) (v : List ℕ) (values : Values) : Type 0 where
  pub extremal : AreExtremal A members v values.extremal.items
  pub polynomials : HavePolynomials A members v values.extremal.items values.places values.pool

-- the row of w: the polynomials of w, or of an element that serves for it, and the values of mu of w
pub record IsRowOf (A : IntegerMatrix) (members : List (List ℕ)) (w : List ℕ) (row : Row) : Type 0 where
  pub kept : List ℕ
  pub serves : ServesFor A members w row.view kept
  pub values : AreValuesOf A members kept (arc_value row.values)
  pub mus : AreMus A members w row.neighbours.items row.mu.items

-- the row of the member with the number i
abbrev pub IsRowAt : Elements → ℕ → Row → Type 0
IsRowAt e i row = IsRowOf (integer_matrix e.matrix) e.members (word_at e.members i) row

-- the polynomials of a row
abbrev pub pool_of : Row → List (List ℤ)
pool_of row = (arc_value row.values).pool
