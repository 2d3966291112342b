-- Each clause is a lemma on Q(x,w).
use Rattle.cox_inverse.proofs.InversePolynomials.{inverse-exists, inverse-unique, inverse-same, inverse-outside, inverse-own}
use Rattle.cox_inverse.proofs.InverseDegree.{inverse-degree}
use Rattle.cox_inverse.proofs.OtherSide.{inverse_rows-other_side}
use Rattle.cox_inverse.proofs.laws.inverse_polynomials.Goals as goal

pub returns-clause-exists : goal.returns-clause-exists
returns-clause-exists c = inverse-exists

pub returns-clause-unique : goal.returns-clause-unique
returns-clause-unique c = inverse-unique

pub returns-clause-elements : goal.returns-clause-elements
returns-clause-elements c = inverse-same

pub returns-clause-outside : goal.returns-clause-outside
returns-clause-outside c = inverse-outside

pub returns-clause-identity : goal.returns-clause-identity
returns-clause-identity c = inverse-own

pub returns-clause-degree : goal.returns-clause-degree
returns-clause-degree c = inverse-degree

pub returns-clause-other_side : goal.returns-clause-other_side
returns-clause-other_side c = inverse_rows-other_side
