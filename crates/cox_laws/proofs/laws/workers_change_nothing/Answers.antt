-- The law `workers_change_nothing`.
use Rattle.cox_laws.proofs.SameAnswers.{same-answers}
use Rattle.cox_laws.proofs.laws.workers_change_nothing.Goals as goal

pub returns : goal.returns
returns c = same-answers
