-- The law `one_answer`.
use Rattle.cox_shell.specs.Reply.{opening}
use Rattle.cox_shell.specs.Answer.{script_lines}
use Rattle.cox_shell.proofs.LineReplies.{AreAllReplies-unique, IsAnswer-unique}
use Rattle.cox_laws.proofs.laws.one_answer.Goals as goal

pub returns-clause-replies : goal.returns-clause-replies
returns-clause-replies c limits script one other p q = AreAllReplies-unique (opening limits) tt (script_lines script) one other p q

pub returns-clause-text : goal.returns-clause-text
returns-clause-text c limits script one other p q = IsAnswer-unique limits script one other p q
