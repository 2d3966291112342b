-- The proof of `check`: words follow the name where there are two.
use Rattle.cox_cert.proofs.WholeChecks.{behind-some}
use Rattle.cox_cert.proofs.checking.check.Goals as goal

pub returns-then-words-gt1-clause-check : goal.returns-then-words-gt1-clause-check
returns-then-words-gt1-clause-check g c =
    c.refuse_words.ensures _ (behind-some (λ argument. argument.now) c.args.words.now c.if-words-gt1.true) _
