-- Without faults a script within the limit is answered, or memory runs out.
use Rattle.cox_laws.proofs.UnhinderedRuns.{run-unhindered}
use Rattle.cox_laws.proofs.laws.complete.Goals as goal

pub returns : goal.returns
returns c = run-unhindered
