-- Rows that a worker reads.
use Rattle.std.specs.Prelude.{◌≡◌, ℕ, true, is_some, ℤ}
use Rattle.cox_context.specs.Closed.{Elements}
use Rattle.cox_workers.specs.declared.read_rows.ReadRows.{ReadRows}
use Rattle.cox_workers.specs.Guarded.{guard_at}

-- the row of the member i is read
abbrev pub IsRead : ReadRows → ℕ → Type 0
IsRead rows i = is_some (guard_at rows.guards.items i) ≡ true

-- they are rows of these elements, with coefficients within the limit
pub record AreReadRows (e : Elements) (bound : ℤ) (rows : ReadRows) : Type 0 where
  pub elements : rows.context.value ≡ e
  pub limit : rows.limit ≡ bound
