-- Another line than the last goes on with no certificate whose entries are all there.
use Rattle.std.proofs.Common.{refl, arith}
use Rattle.std.proofs.lemmas.Bool.{false≢true}
use Rattle.cox_cert.proofs.NextLines.{end-all, end-none}
use Rattle.cox_cert.proofs.draft.take_end.Goals as goal

pub returns-then-is_end : goal.returns-then-is_end
returns-then-is_end c = λ lines h. end-all c.args.draft c.args.line.now lines h (omega (arith, c.requires.full, c.args.draft.words.ok.0))
    (c.if-is_end.ensures.0 refl)

pub returns-else-is_end : goal.returns-else-is_end
returns-else-is_end c = λ lines h. end-none c.args.draft c.args.line.now lines h (omega (arith, c.requires.full, c.args.draft.words.ok.0))
    (λ e. false≢true (c.if-is_end.ensures.1 e))
