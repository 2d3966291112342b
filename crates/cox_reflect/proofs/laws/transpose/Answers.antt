-- Each clause is a lemma on the transposed matrix.
use Rattle.cox_reflect.proofs.Transposed.{same_over_transposed, normal_form-transposed, root_over_transposed, equal_columns}
use Rattle.cox_reflect.proofs.laws.transpose.Goals as goal

pub returns-clause-same : goal.returns-clause-same
returns-clause-same c = same_over_transposed

pub returns-clause-normal_forms : goal.returns-clause-normal_forms
returns-clause-normal_forms c = normal_form-transposed

pub returns-clause-signs : goal.returns-clause-signs
returns-clause-signs c = root_over_transposed

pub returns-clause-equal_roots : goal.returns-clause-equal_roots
returns-clause-equal_roots c = λ A g v w s t hv hw ls lt e. equal_columns A g v w s t hv hw ls lt e
