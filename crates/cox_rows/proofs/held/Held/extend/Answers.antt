-- The rows stay rows in the larger context.
use Rattle.cox_rows.proofs.LargerContexts.{rows-kept}
use Rattle.cox_rows.proofs.held.Held.extend.Goals as goal

pub invariant_of-self : goal.invariant_of-self
invariant_of-self c =
    rows-kept c.self.inside.context c.extend_to-result.new.self c.len-old.ensures.admissible c.len-old.ensures.closed
    (rw c.extend_to-result.ensures.matrix at c.len-new.ensures.closed) c.extend_to-result.ensures.matrix c.extend_to-result.ensures.kept
    c.self.inside.limit c.self.inside.rows.items c.self.invariant

pub returns-clause-members : goal.returns-clause-members
returns-clause-members c = rw (← c.self.view_is) c.extend_to-result.ensures.members
