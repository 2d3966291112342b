-- One more word is the member at its place, or it is another.
use Rattle.std.proofs.Common.{refl, ◌∙◌, sym, arith}
use Rattle.std.proofs.lemmas.Bool.{false≢true}
use Rattle.cox_cert.proofs.Judgings.{members-more, members-differ}
use Rattle.cox_cert.proofs.judging.has_members.Goals as goal

pub returns-then-not-same_word : goal.returns-then-not-same_word
returns-then-not-same_word c = (
  λ t. absurd (false≢true t),
  λ e. absurd (members-differ c.args.context.now.members c.args.words.now c.loop-i.i c.index-words-i.result (omega arith) c.index-words-i.is
      (λ s. false≢true (c.if-not-same_word.ensures.1 (c.word.ensures ∙ s))) e),
)

pub loop-i-preserved : goal.loop-i-preserved
loop-i-preserved c =
    members-more c.args.context.now.members c.args.words.now c.loop-i.i c.index-words-i.result (omega arith) (omega arith)
    c.loop-i.invariant c.index-words-i.is (sym c.word.ensures ∙ c.if-not-same_word.ensures.0 refl)
