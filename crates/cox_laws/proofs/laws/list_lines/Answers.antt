-- What a line is answered where a list is open.
use Rattle.cox_laws.proofs.OtherCommands.{next-begins, end-ends, other-kept}
use Rattle.cox_laws.proofs.laws.list_lines.Goals as goal

pub returns-clause-next : goal.returns-clause-next
returns-clause-next c = next-begins

pub returns-clause-end : goal.returns-clause-end
returns-clause-end c = end-ends

pub returns-clause-other : goal.returns-clause-other
returns-clause-other c = other-kept
