-- Each clause is a lemma on step families.
use Rattle.cox_hecke.proofs.StepFamilies.{recursion, corrections_exist, step_family-is, step_family-exists}
use Rattle.cox_hecke.proofs.laws.recursion.Goals as goal

pub returns-clause-rows : goal.returns-clause-rows
returns-clause-rows c = recursion

pub returns-clause-corrections : goal.returns-clause-corrections
returns-clause-corrections c = corrections_exist

pub returns-clause-family : goal.returns-clause-family
returns-clause-family c = step_family-is

pub returns-clause-exists : goal.returns-clause-exists
returns-clause-exists c = step_family-exists
