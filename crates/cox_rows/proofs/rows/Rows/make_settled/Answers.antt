-- The row is made from rows that are settled, and they stay so.
use Rattle.std.proofs.Common.{subst, sym}
use Rattle.cox_context.specs.Closed.{Elements}
use Rattle.cox_klstep.specs.NeedsOf.{HasNeeds}
use Rattle.cox_rows.specs.Holding.{HasRow}
use Rattle.cox_rows.specs.Ensured.{IsSettled}
use Rattle.cox_rows.proofs.SettledMembers.{settled-row, settled-more, needs-weaker}
use Rattle.cox_rows.proofs.rows.Rows.make_settled.Goals as goal

pub make-requires-clause-needs : goal.make-requires-clause-needs
make-requires-clause-needs c = needs-weaker c.args.self.now.elements (IsSettled c.args.self.now) (HasRow c.args.self.now) c.args.i
    (settled-row c.args.self.now) c.requires.needs

pub settle-requires-clause-needs : goal.settle-requires-clause-needs
settle-requires-clause-needs c = subst (λ (e : Elements). HasNeeds e (IsSettled c.make.new.self) c.args.i) (sym c.make.ensures.elements)
    (needs-weaker c.args.self.now.elements (IsSettled c.args.self.now) (IsSettled c.make.new.self) c.args.i
    (settled-more c.args.self.now c.make.new.self c.make.ensures.elements c.make.ensures.limit c.make.ensures.kept) c.requires.needs)
