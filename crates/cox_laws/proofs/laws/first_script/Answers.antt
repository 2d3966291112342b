-- A script and its answer.
use Rattle.cox_laws.proofs.FirstScript.{script-answered, script-run}
use Rattle.cox_laws.proofs.laws.first_script.Goals as goal

pub returns-clause-answer : goal.returns-clause-answer
returns-clause-answer c = script-answered

pub returns-clause-run : goal.returns-clause-run
returns-clause-run c = script-run
