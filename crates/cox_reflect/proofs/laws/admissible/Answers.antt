-- Each clause is a lemma on the integer matrix of a Coxeter matrix, or on its transpose.
use Rattle.cox_reflect.proofs.Admissible.{IsAdmissible-integer_matrix, order_label}
use Rattle.cox_reflect.proofs.Transposed.{IsAdmissible-transposed}
use Rattle.cox_reflect.proofs.laws.admissible.Goals as goal

pub returns-clause-of_coxeter_matrix : goal.returns-clause-of_coxeter_matrix
returns-clause-of_coxeter_matrix c = IsAdmissible-integer_matrix

pub returns-clause-orders : goal.returns-clause-orders
returns-clause-orders c = order_label

pub returns-clause-of_transpose : goal.returns-clause-of_transpose
returns-clause-of_transpose c = IsAdmissible-transposed
