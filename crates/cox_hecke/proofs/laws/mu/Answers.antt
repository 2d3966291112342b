-- Each clause is a lemma on mu.
use Rattle.cox_hecke.proofs.AllRows.{mu-exists, mu-unique}
use Rattle.cox_hecke.proofs.RightSteps.{mu-reverse}
use Rattle.cox_hecke.proofs.Descended.{mu-left, mu-right, mu-shift_left, mu-shift_right}
use Rattle.cox_hecke.proofs.laws.mu.Goals as goal

pub returns-clause-exists : goal.returns-clause-exists
returns-clause-exists c = mu-exists

pub returns-clause-unique : goal.returns-clause-unique
returns-clause-unique c = mu-unique

pub returns-clause-inverse : goal.returns-clause-inverse
returns-clause-inverse c = mu-reverse

pub returns-clause-left : goal.returns-clause-left
returns-clause-left c = mu-left

pub returns-clause-right : goal.returns-clause-right
returns-clause-right c = mu-right

pub returns-clause-left_shift : goal.returns-clause-left_shift
returns-clause-left_shift c = mu-shift_left

pub returns-clause-right_shift : goal.returns-clause-right_shift
returns-clause-right_shift c = mu-shift_right
