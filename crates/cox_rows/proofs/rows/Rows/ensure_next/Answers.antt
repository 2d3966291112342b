-- The row is made from rows of members before it, which are settled.
use Rattle.cox_klstep.proofs.NeededRows.{all-needs}
use Rattle.cox_rows.specs.Ensured.{IsSettled}
use Rattle.cox_rows.proofs.CountedRows.{counted-none}
use Rattle.cox_rows.proofs.rows.Rows.ensure_next.Goals as goal

pub make_settled-requires-clause-needs : goal.make_settled-requires-clause-needs
make_settled-requires-clause-needs c = all-needs c.args.self.now.elements (IsSettled c.args.self.now) c.args.i
    c.context-context.ensures.admissible c.context-context.ensures.closed c.requires.member c.requires.before

pub returns-then-is_settled-clause-counted : goal.returns-then-is_settled-clause-counted
returns-then-is_settled-clause-counted c = counted-none c.args.self.now
