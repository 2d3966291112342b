-- Each row that is there is that of a member, and is not beyond the limits.
use Rattle.cox_rows.proofs.HeldRows.{held-member}
use Rattle.cox_rows.proofs.RowBeyond.{held-not_beyond}
use Rattle.cox_rows.proofs.held.Held.context.Goals as goal

pub returns-clause-members : goal.returns-clause-members
returns-clause-members c = rw (← c.self.view_is)
    (held-member c.self.inside.context c.self.inside.limit c.self.inside.rows.items c.self.invariant)

pub returns-clause-small : goal.returns-clause-small
returns-clause-small c = rw (← c.self.view_is)
    (held-not_beyond c.self.inside.context c.self.inside.limit c.self.inside.rows.items c.len-len.ensures.admissible
    c.len-len.ensures.closed c.self.invariant)
