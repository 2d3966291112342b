-- The row that is held is that of the member.
use Rattle.cox_rows.proofs.rows.Rows.polynomial.Goals as goal

pub polynomial-requires-clause-row : goal.polynomial-requires-clause-row
polynomial-requires-clause-row c = rw c.context.ensures.context (c.in-Some.ensures {u = tt}).row.is

pub returns-clause-value : goal.returns-clause-value
returns-clause-value c = rw (c.context.ensures.context, c.self.view_is) at c.polynomial.ensures.value

pub returns-clause-exactly : goal.returns-clause-exactly
returns-clause-exactly c = rw (c.context.ensures.context, c.self.view_is) at c.polynomial.ensures.exactly
