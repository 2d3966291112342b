-- Each clause is a lemma on rows at the elements of an interval.
use Rattle.cox_rowcheck.proofs.IntervalRows.{row-decided, row-once}
use Rattle.cox_rowcheck.proofs.laws.rows.Goals as goal

pub returns-clause-conditions : goal.returns-clause-conditions
returns-clause-conditions c = λ A g w words polynomials list count. row-decided A g w words list polynomials count

pub returns-clause-unique : goal.returns-clause-unique
returns-clause-unique c = row-once
