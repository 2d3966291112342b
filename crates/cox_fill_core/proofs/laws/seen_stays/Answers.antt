-- What was seen stays seen.
use Rattle.cox_fill_core.proofs.EventLaws.{seen_stays_so}
use Rattle.cox_fill_core.proofs.laws.seen_stays.Goals as goal

pub returns : goal.returns
returns c = seen_stays_so
