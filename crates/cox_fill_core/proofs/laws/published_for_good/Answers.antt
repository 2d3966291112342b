-- A made row is Published for good.
use Rattle.cox_fill_core.proofs.EventLaws.{published_for_good}
use Rattle.cox_fill_core.proofs.laws.published_for_good.Goals as goal

pub returns : goal.returns
returns c = published_for_good
