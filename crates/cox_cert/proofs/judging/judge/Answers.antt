-- Where no cause applies the certificate states the row.
use Rattle.std.proofs.Common.{ap, ◌∙◌, Ok}
use Rattle.cox_cert.proofs.judging.judge.Goals as goal

pub returns-in-Ok-None : goal.returns-in-Ok-None
returns-in-Ok-None c = rw (c.in-Ok-None.is ∙ ap Ok c.in-Ok-None.field-0-is) at c.first_cause.ensures.first
