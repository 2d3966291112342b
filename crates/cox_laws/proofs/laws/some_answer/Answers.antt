-- The law `some_answer`.
use Rattle.cox_laws.proofs.SomeAnswer.{IsAnswer-exists}
use Rattle.cox_laws.proofs.laws.some_answer.Goals as goal

pub returns : goal.returns
returns c limits script = IsAnswer-exists limits script
