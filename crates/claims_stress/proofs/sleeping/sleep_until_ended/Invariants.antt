-- The seat sits at the table, and holds nothing.
use Rattle.cox_claims.specs.Seats.{HoldsNothing}
use Rattle.cox_claims.specs.Tables.{IsSeatOf}
use Rattle.claims_stress.proofs.sleeping.sleep_until_ended.Given as goal

abbrev pub invariant-loop : goal.invariant-loop
invariant-loop g l = IsSeatOf l.claims l.seat × HoldsNothing l.seat
