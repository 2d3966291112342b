-- Each clause is a lemma on Bruhat order: lifting from either side.
use Rattle.cox_reflect.proofs.Bruhat.{lift_down, lift_up, lift_down_right, lift_up_right}
use Rattle.cox_reflect.proofs.laws.bruhat_lifting.Goals as goal

pub returns-clause-left_shorter : goal.returns-clause-left_shorter
returns-clause-left_shorter c = lift_down

pub returns-clause-left_longer : goal.returns-clause-left_longer
returns-clause-left_longer c = lift_up

pub returns-clause-right_shorter : goal.returns-clause-right_shorter
returns-clause-right_shorter c = lift_down_right

pub returns-clause-right_longer : goal.returns-clause-right_longer
returns-clause-right_longer c = lift_up_right
