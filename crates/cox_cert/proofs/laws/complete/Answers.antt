-- Without faults a text within the limit gets a verdict, or memory runs out.
use Rattle.cox_cert.proofs.WholeChecks.{check-unhindered}
use Rattle.cox_cert.proofs.laws.complete.Goals as goal

pub returns : goal.returns
returns c = check-unhindered
