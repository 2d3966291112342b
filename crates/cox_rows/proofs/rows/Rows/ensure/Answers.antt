-- The row of a settled member is held.
use Rattle.std.proofs.Common.{rules}
use Rattle.cox_rows.specs.Ensured.{IsSettled}
use Rattle.cox_rows.proofs.SettledMembers.{settled-row}
use Rattle.cox_rows.proofs.rows.Rows.ensure.Goals as goal

pub returns-clause-there : goal.returns-clause-there
returns-clause-there c =
    let settled : IsSettled c.ensure_until.new.self c.args.i = search rules
    in settled-row c.ensure_until.new.self c.args.i settled
