-- A line that ends by LF is the first.
use Rattle.cox_tokens.proofs.Lines.{lines_of-line, ended_lines-line}
use Rattle.cox_tokens.proofs.laws.line_by_lf.Goals as goal

pub returns-clause-all : goal.returns-clause-all
returns-clause-all c = lines_of-line c.args.line.now c.args.rest.now c.requires

pub returns-clause-ended : goal.returns-clause-ended
returns-clause-ended c = ended_lines-line c.args.line.now c.args.rest.now c.requires
