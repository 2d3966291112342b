-- A line of no element goes on with no matrix.
use Rattle.cox_cert.proofs.NextLines.{head-none}
use Rattle.cox_cert.proofs.draft.take_top.Goals as goal

pub returns-in-None : goal.returns-in-None
returns-in-None c = λ lines h. head-none c.args.group c.args.line.now lines h (rw c.rank.ensures.rank at c.in-None.ensures.none)
