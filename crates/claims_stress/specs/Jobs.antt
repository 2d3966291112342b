-- What a worker needs.
use Rattle.cox_claims.specs.declared.table.Claims.{Claims}
use Rattle.cox_claims.specs.Tables.{IsSeatOf}
use Rattle.claims_stress.specs.declared.work.Job.{Job}

-- the job's seat sits at this table
abbrev pub IsJobReady : Claims → Job → Type 0
IsJobReady claims job = IsSeatOf claims job.seat
