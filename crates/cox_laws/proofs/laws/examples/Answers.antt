-- Values in A 3, and cells in A 2.
use Rattle.cox_laws.proofs.TypeA3.{r_e_121, p_2_2132, mu_2_2132, q_13_13213}
use Rattle.cox_laws.proofs.CellsA2.{left_cells}
use Rattle.cox_laws.proofs.laws.examples.Goals as goal

pub returns-clause-r_polynomial : goal.returns-clause-r_polynomial
returns-clause-r_polynomial c = r_e_121

pub returns-clause-polynomial : goal.returns-clause-polynomial
returns-clause-polynomial c = p_2_2132

pub returns-clause-mu : goal.returns-clause-mu
returns-clause-mu c = mu_2_2132

pub returns-clause-inverse : goal.returns-clause-inverse
returns-clause-inverse c = q_13_13213

pub returns-clause-cells : goal.returns-clause-cells
returns-clause-cells c = left_cells
