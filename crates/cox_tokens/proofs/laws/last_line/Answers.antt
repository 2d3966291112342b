-- A last line is the only one.
use Rattle.cox_tokens.proofs.Lines.{lines_of-last, ended_lines-none}
use Rattle.cox_tokens.proofs.laws.last_line.Goals as goal

pub returns-clause-all : goal.returns-clause-all
returns-clause-all c = lines_of-last c.args.line.now c.requires.some c.requires.unbroken

pub returns-clause-ended : goal.returns-clause-ended
returns-clause-ended c = ended_lines-none c.args.line.now c.requires.unbroken
