-- The seat sits at the table, and there is a noted state for each row.
use Rattle.std.proofs.Common.{◌≡◌, vec_len}
use Rattle.cox_claims.specs.Tables.{IsSeatOf, rows_of}
use Rattle.claims_stress.proofs.work.work.Given as goal

abbrev pub invariant-loop-step : goal.invariant-loop-step
invariant-loop-step l = IsSeatOf l.claims l.seat × (vec_len l.last ≡ rows_of l.claims)
