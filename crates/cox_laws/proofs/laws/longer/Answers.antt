-- The law `longer`.
use Rattle.cox_laws.proofs.UnhinderedRuns.{run-longer}
use Rattle.cox_laws.proofs.laws.longer.Goals as goal

pub returns : goal.returns
returns c = run-longer
