-- A row is made by the actor that won it.
use Rattle.cox_fill_core.proofs.EventLaws.{made_by_winner}
use Rattle.cox_fill_core.proofs.laws.made_by_winner.Goals as goal

pub returns : goal.returns
returns c = made_by_winner
