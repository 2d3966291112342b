-- Rows within limits.
use Rattle.std.specs.Prelude.{ℕ, ◌<◌, ◌≤◌, List, length, ℤ, unsigned_abs}
use Rattle.std.specs.Arc.{arc_value}
use Rattle.cox_poly.specs.Limit.{AllWithin}
use Rattle.cox_row.specs.declared.row.Row.{Row}
use Rattle.cox_row.specs.declared.row.TheConstants.{MU_LIMIT}
use Rattle.cox_row.specs.Polynomials.{polynomial_at}
use Rattle.cox_row.specs.Mus.{value_at}

-- none of these values of mu is above MU_LIMIT in absolute value
abbrev pub AreSmallMus : List ℤ → Type 0
AreSmallMus values = (k : ℕ) → k < length values → unsigned_abs (value_at values k) ≤ MU_LIMIT

-- no coefficient of a polynomial of the row is above the limit in absolute value, and no value of mu above its own
pub record IsRowWithin (limit : ℤ) (row : Row) : Type 0 where
  pub coefficients : (j : ℕ) → j < length (arc_value row.values).pool → AllWithin limit (polynomial_at (arc_value row.values).pool j)
  pub mu : AreSmallMus row.mu.items
