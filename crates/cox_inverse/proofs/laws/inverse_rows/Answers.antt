-- Each clause is a lemma on inverse rows.
use Rattle.cox_inverse.proofs.OneInverseRow.{inverse_row-unique, inverse_row-same, inverse_row-any_list}
use Rattle.cox_inverse.proofs.InverseRowExists.{inverse_row-exists}
use Rattle.cox_inverse.proofs.laws.inverse_rows.Goals as goal

pub returns-clause-unique : goal.returns-clause-unique
returns-clause-unique c = inverse_row-unique

pub returns-clause-exists : goal.returns-clause-exists
returns-clause-exists c = inverse_row-exists

pub returns-clause-same : goal.returns-clause-same
returns-clause-same c = inverse_row-same

pub returns-clause-any_list : goal.returns-clause-any_list
returns-clause-any_list c = λ A g w q is rows are x words b each. inverse_row-any_list A g w q is rows are x words b each.once
