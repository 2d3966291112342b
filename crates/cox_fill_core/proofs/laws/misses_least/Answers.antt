-- A missing row is the least one.
use Rattle.cox_fill_core.proofs.EventLaws.{misses_least}
use Rattle.cox_fill_core.proofs.laws.misses_least.Goals as goal

pub returns : goal.returns
returns c = misses_least
