-- By induction on the length of w.
use Rattle.cox_rows.proofs.NeedDecided.{tell-needs_beyond}
use Rattle.cox_rows.proofs.laws.needs_beyond.Goals as goal

pub returns : goal.returns
returns c = tell-needs_beyond
