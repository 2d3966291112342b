-- Each job so far has a seat at the table.
use Rattle.std.proofs.Common.{All}
use Rattle.cox_claims.specs.Tables.{IsSeatOf}
use Rattle.claims_stress.specs.Jobs.{IsJobReady}
use Rattle.claims_stress.proofs.jobs.Given as goal

abbrev pub invariant-loop-worker : goal.invariant-loop-worker
invariant-loop-worker l = IsSeatOf l.claims l.seat × All (IsJobReady l.claims) l.jobs.items
