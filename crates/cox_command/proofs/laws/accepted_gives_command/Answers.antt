-- The law `accepted_gives_command`.
use Rattle.cox_command.proofs.GivenCommands.{accepted-gives}
use Rattle.cox_command.proofs.laws.accepted_gives_command.Goals as goal

pub returns : goal.returns
returns c = accepted-gives
