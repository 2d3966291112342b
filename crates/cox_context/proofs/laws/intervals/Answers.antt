-- Each clause is a lemma on intervals as lists.
use Rattle.cox_base.specs.IntegerMatrix.{integer_matrix}
use Rattle.cox_reflect.proofs.Admissible.{IsAdmissible-integer_matrix}
use Rattle.cox_reflect.proofs.Bruhat.{below-trans}
use Rattle.cox_base.specs.Members.{IsInInterval}
use Rattle.cox_context.proofs.ShortLexLists.{IsListOf-unique}
use Rattle.cox_context.proofs.IntervalLists.{interval-exists}
use Rattle.cox_context.proofs.laws.intervals.Goals as goal

pub returns-clause-exists : goal.returns-clause-exists
returns-clause-exists c = λ g m w. interval-exists (integer_matrix g) (IsAdmissible-integer_matrix g m) w

pub returns-clause-unique : goal.returns-clause-unique
returns-clause-unique c = λ g m w words others a b. IsListOf-unique (IsInInterval (integer_matrix g) w) words others a b

pub returns-clause-downwards : goal.returns-clause-downwards
returns-clause-downwards c =
    λ g m w x z e b p. record { element = e; below = below-trans (integer_matrix g) (IsAdmissible-integer_matrix g m) b p.below }
