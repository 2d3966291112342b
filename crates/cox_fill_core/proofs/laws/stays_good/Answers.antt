-- Each event, and so each list of events, keeps a core good.
use Rattle.cox_fill_core.proofs.EventLaws.{keeps_good, stays_good}
use Rattle.cox_fill_core.proofs.laws.stays_good.Goals as goal

pub returns : goal.returns
returns c = record { each_event = keeps_good; all_events = stays_good }
