-- What is found of a group that is too large.
use Rattle.cox_base.specs.IntegerMatrix.{integer_matrix}
use Rattle.cox_base.specs.Members.{IsElement}
use Rattle.cox_reflect.proofs.Admissible.{IsAdmissible-integer_matrix}
use Rattle.cox_context.proofs.RefusalCauses.{too_large-found}
use Rattle.cox_context.proofs.GroupSizes.{group-found}
use Rattle.cox_context.proofs.laws.large_groups.Goals as goal

pub returns-clause-found : goal.returns-clause-found
returns-clause-found c = λ g h limit large. group-found (integer_matrix g) (IsAdmissible-integer_matrix g h) limit large

pub returns-clause-large : goal.returns-clause-large
returns-clause-large c = λ g limit found. too_large-found (IsElement (integer_matrix g)) limit found
