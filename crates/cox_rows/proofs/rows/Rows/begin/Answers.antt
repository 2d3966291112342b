-- The row of a settled member is held.
use Rattle.cox_rows.proofs.SettledMembers.{settled-row}
use Rattle.cox_rows.proofs.rows.Rows.begin.Goals as goal

pub returns-in-Ok-clause-there : goal.returns-in-Ok-clause-there
returns-in-Ok-clause-there c = λ t. settled-row c.ensure_until.new.self c.args.i (c.in-Ok.ensures.settled t)
