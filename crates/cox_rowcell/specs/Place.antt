-- What row a cell is for.
use Rattle.std.specs.Prelude.{ℕ, ℤ}
use Rattle.cox_context.specs.Closed.{Elements}

-- a member of a context, by its number, and the greatest absolute value that a coefficient of its row may have
pub record Place : Type 0 where
  pub elements : Elements
  pub member : ℕ
  pub limit : ℤ
