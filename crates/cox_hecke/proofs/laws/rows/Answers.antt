-- Each clause is a lemma on rows.
use Rattle.cox_hecke.proofs.OneRow.{row-unique, row-same, row-bar}
use Rattle.cox_hecke.proofs.RowsExist.{row-exists}
use Rattle.cox_hecke.proofs.laws.rows.Goals as goal

pub returns-clause-unique : goal.returns-clause-unique
returns-clause-unique c = row-unique

pub returns-clause-exists : goal.returns-clause-exists
returns-clause-exists c = row-exists

pub returns-clause-same : goal.returns-clause-same
returns-clause-same c = row-same

pub returns-clause-any_list : goal.returns-clause-any_list
returns-clause-any_list c = λ A g w p row x words b each. row-bar A g w p row x words b each.once
