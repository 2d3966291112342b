-- The row of a settled member is held.
use Rattle.std.proofs.Common.{rules}
use Rattle.std.specs.Prelude.{IsTrue}
use Rattle.cox_rows.specs.Ensured.{IsSettled}
use Rattle.cox_rows.proofs.SettledMembers.{settled-row}
use Rattle.cox_rows.proofs.rows.Rows.is_settled.Goals as goal

pub returns-in-Some-clause-there : goal.returns-in-Some-clause-there
returns-in-Some-clause-there c =
    let settled : IsTrue c.in-Some.settled.now → IsSettled c.args.self.now c.args.i = search rules
    in λ t. settled-row c.args.self.now c.args.i (settled t)
