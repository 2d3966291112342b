-- What a command on elements is answered.
use Rattle.cox_laws.proofs.AnsweredLines.{inquiry-answered}
use Rattle.cox_laws.proofs.laws.inquiries.Goals as goal

pub returns : goal.returns
returns c = inquiry-answered
