-- Each clause is a lemma on P(x,w).
use Rattle.std.proofs.Common.{refl}
use Rattle.cox_hecke.proofs.PolynomialValues.{kazhdan_lusztig-exists, kazhdan_lusztig-unique, kazhdan_lusztig-same, kazhdan_lusztig-outside}
use Rattle.cox_hecke.proofs.PolynomialValues.{kazhdan_lusztig-left, kazhdan_lusztig-right, kazhdan_lusztig-reverse}
use Rattle.cox_hecke.proofs.laws.polynomials.Goals as goal

pub returns-clause-exists : goal.returns-clause-exists
returns-clause-exists c = kazhdan_lusztig-exists

pub returns-clause-unique : goal.returns-clause-unique
returns-clause-unique c = kazhdan_lusztig-unique

pub returns-clause-row : goal.returns-clause-row
returns-clause-row c = λ A w p row x. record { row = p; is = row; at = λ k. refl }

pub returns-clause-elements : goal.returns-clause-elements
returns-clause-elements c = kazhdan_lusztig-same

pub returns-clause-outside : goal.returns-clause-outside
returns-clause-outside c = kazhdan_lusztig-outside

pub returns-clause-left : goal.returns-clause-left
returns-clause-left c = kazhdan_lusztig-left

pub returns-clause-right : goal.returns-clause-right
returns-clause-right c = kazhdan_lusztig-right

pub returns-clause-inverse : goal.returns-clause-inverse
returns-clause-inverse c = kazhdan_lusztig-reverse
