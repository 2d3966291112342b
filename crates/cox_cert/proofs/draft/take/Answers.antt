-- No line goes on behind the last.
use Rattle.cox_cert.proofs.NextLines.{behind-none}
use Rattle.cox_cert.proofs.draft.take.Goals as goal

pub returns : goal.returns
returns c = λ lines h. behind-none _ c.args.line.now lines (rw c.in-Ended.is at h)
