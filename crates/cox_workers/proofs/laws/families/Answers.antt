-- The law.
use Rattle.cox_workers.proofs.GivenRows.{families}
use Rattle.cox_workers.proofs.laws.families.Goals as goal

pub returns : goal.returns
returns c = families
