-- Each clause is a lemma on the operators.
use Rattle.cox_hecke.proofs.OperatorLaws.{left-respects, right-respects, left_inverse-respects, right_inverse-respects}
use Rattle.cox_hecke.proofs.laws.respect.Goals as goal

pub returns-clause-left : goal.returns-clause-left
returns-clause-left c = left-respects

pub returns-clause-right : goal.returns-clause-right
returns-clause-right c = right-respects

pub returns-clause-left_inverse : goal.returns-clause-left_inverse
returns-clause-left_inverse c = left_inverse-respects

pub returns-clause-right_inverse : goal.returns-clause-right_inverse
returns-clause-right_inverse c = right_inverse-respects
