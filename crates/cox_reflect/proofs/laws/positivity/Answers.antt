-- Each clause is a lemma on the signs of roots.
use Rattle.cox_reflect.proofs.RootSigns.{root_signs, no_zero_root, longer-root, shorter-root, descent_by_coordinate}
use Rattle.cox_reflect.proofs.RootSigns.{longer_left-root, shorter_left-root}
use Rattle.cox_reflect.proofs.laws.positivity.Goals as goal

pub returns-clause-sign : goal.returns-clause-sign
returns-clause-sign c = root_signs

pub returns-clause-not_zero : goal.returns-clause-not_zero
returns-clause-not_zero c = no_zero_root

pub returns-clause-longer_right : goal.returns-clause-longer_right
returns-clause-longer_right c = longer-root

pub returns-clause-shorter_right : goal.returns-clause-shorter_right
returns-clause-shorter_right c = shorter-root

pub returns-clause-longer_left : goal.returns-clause-longer_left
returns-clause-longer_left c = longer_left-root

pub returns-clause-shorter_left : goal.returns-clause-shorter_left
returns-clause-shorter_left c = shorter_left-root

pub returns-clause-negative_coordinate : goal.returns-clause-negative_coordinate
returns-clause-negative_coordinate c = descent_by_coordinate
