-- There is at most one list of cells, and there is one.
use Rattle.cox_cells.proofs.OneList.{one_list}
use Rattle.cox_cells.proofs.SomeList.{some_list}
use Rattle.cox_cells.proofs.laws.cells.Goals as goal

pub returns-clause-exists : goal.returns-clause-exists
returns-clause-exists c = λ A g kind elements all. (_, some_list kind A g elements all)

pub returns-clause-unique : goal.returns-clause-unique
returns-clause-unique c = λ A g kind. one_list kind A
