-- A question can be answered.
use Rattle.cox_replies.proofs.Questions.{question-answerable}
use Rattle.cox_replies.proofs.laws.answerable.Goals as goal

pub returns : goal.returns
returns c = question-answerable
