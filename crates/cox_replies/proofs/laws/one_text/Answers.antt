-- A question has one text at most.
use Rattle.cox_replies.proofs.Questions.{question-one}
use Rattle.cox_replies.proofs.laws.one_text.Goals as goal

pub returns : goal.returns
returns c = question-one
