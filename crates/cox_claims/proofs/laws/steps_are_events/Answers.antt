-- Each step is the event that it is named after.
use Rattle.cox_claims.proofs.EventSteps.{steps_are_events}
use Rattle.cox_claims.proofs.laws.steps_are_events.Goals as goal

pub returns : goal.returns
returns c = steps_are_events
