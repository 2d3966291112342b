-- A row is won once.
use Rattle.cox_fill_core.proofs.EventLaws.{won_once}
use Rattle.cox_fill_core.proofs.laws.won_once.Goals as goal

pub returns : goal.returns
returns c = won_once
