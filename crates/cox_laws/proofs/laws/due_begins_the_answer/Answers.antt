-- The lines that were read are the first of the script's.
use Rattle.cox_laws.proofs.Due.{AreDue-prefix}
use Rattle.cox_laws.proofs.laws.due_begins_the_answer.Goals as goal

pub returns : goal.returns
returns c limits script left text replies due answer = AreDue-prefix limits script left text replies due answer
