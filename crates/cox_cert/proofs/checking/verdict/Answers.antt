-- The certificate that was read is judged.
use Rattle.cox_cert.proofs.WholeChecks.{verdict-judged}
use Rattle.cox_cert.proofs.checking.verdict.Goals as goal

pub returns-in-Ok-collect-clause-is : goal.returns-in-Ok-collect-clause-is
returns-in-Ok-collect-clause-is g c =
    let h = c.in-Ok-collect.ensures.gathers in
    verdict-judged c.judge.result h.certificate h.lines _ _ (c.judge.ensures h.certificate h.gives.is h.parts) h.gives h.all
