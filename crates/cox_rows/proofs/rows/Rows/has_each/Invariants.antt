-- The rows of the members so far are held.
use Rattle.std.proofs.Common.{ℕ, ◌<◌}
use Rattle.cox_row.specs.Rising.{number_at}
use Rattle.cox_rows.specs.Holding.{HasRow}
use Rattle.cox_rows.proofs.rows.Rows.has_each.Given as goal

abbrev pub invariant-loop-u : goal.invariant-loop-u
invariant-loop-u l = (k : ℕ) → k < l.u-index → HasRow l.self (number_at l.numbers k)
