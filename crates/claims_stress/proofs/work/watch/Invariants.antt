-- The seat sits at the table.
use Rattle.cox_claims.specs.Tables.{IsSeatOf}
use Rattle.claims_stress.proofs.work.watch.Given as goal

abbrev pub invariant-loop-row : goal.invariant-loop-row
invariant-loop-row l = IsSeatOf l.claims l.seat
