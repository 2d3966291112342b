-- The first letter of the word, and what is named by the rest without a letter.
use Rattle.std.proofs.Common.{◌-◌, ◌∙◌, arith}
use Rattle.cox_base.specs.IntegerMatrix.{integer_matrix}
use Rattle.cox_context.specs.Numbers.{word_at}
use Rattle.cox_context.proofs.RightShifts.{first-letter}
use Rattle.cox_context.proofs.ShorterWords.{without-there, without-some, without-less, without-first, without-next}
use Rattle.cox_context.proofs.exchange.+without_letter.Goals as goal

pub link-link-requires-clause-some : goal.link-link-requires-clause-some
link-link-requires-clause-some t c =
    without-some (integer_matrix c.args.context.now.matrix) c.len-count.ensures.admissible c.args.context.now.members
    c.len-count.ensures.closed c.args.i c.requires.member c.args.at c.requires.at

pub returns-then-at-eq0-clause-word : goal.returns-then-at-eq0-clause-word
returns-then-at-eq0-clause-word t c =
    without-first (integer_matrix c.args.context.now.matrix) c.len-count.ensures.admissible c.args.context.now.members
    c.len-count.ensures.closed c.args.i c.requires.member c.args.at c.requires.at c.link-link.result.first c.link-link.result.rest
    c.link-link.ensures.word (omega (arith, c.link-link.ensures.inward, c.requires.member)) c.if-at-eq0.true

pub left-requires-clause-letter : goal.left-requires-clause-letter
left-requires-clause-letter t c =
    first-letter (integer_matrix c.args.context.now.matrix) c.len-count.ensures.admissible c.args.context.now.members
    c.len-count.ensures.closed c.link-link.result.first (word_at c.args.context.now.members c.link-link.result.rest) c.args.i
    c.requires.member c.link-link.ensures.word

pub unreachable-requires : goal.unreachable-requires
unreachable-requires t c =
    let A = integer_matrix c.args.context.now.matrix
    in let words = c.args.context.now.members
    in let next = without-next A c.len-count.ensures.admissible words c.len-count.ensures.closed c.args.i c.requires.member c.args.at
    c.requires.at c.link-link.result.first c.link-link.result.rest c.link-link.ensures.word (c.args.at - 1)
    c.without_letter-rest.result (omega (arith, c.if-at-eq0.false)) c.without_letter-rest.ensures.word
    in c.in-None.ensures (rw next (without-there A c.len-count.ensures.admissible words c.len-count.ensures.closed c.args.i
    c.requires.member c.args.at c.requires.at))

pub returns-clause-word : goal.returns-clause-word
returns-clause-word t c =
    c.in-Some.ensures.1 ∙ without-next (integer_matrix c.args.context.now.matrix) c.len-count.ensures.admissible
    c.args.context.now.members c.len-count.ensures.closed c.args.i c.requires.member c.args.at c.requires.at c.link-link.result.first
    c.link-link.result.rest c.link-link.ensures.word (c.args.at - 1) c.without_letter-rest.result (omega (arith, c.if-at-eq0.false))
    c.without_letter-rest.ensures.word

pub returns-clause-shorter : goal.returns-clause-shorter
returns-clause-shorter t c =
    let A = integer_matrix c.args.context.now.matrix
    in let words = c.args.context.now.members
    in let next = without-next A c.len-count.ensures.admissible words c.len-count.ensures.closed c.args.i c.requires.member c.args.at
    c.requires.at c.link-link.result.first c.link-link.result.rest c.link-link.ensures.word (c.args.at - 1)
    c.without_letter-rest.result (omega (arith, c.if-at-eq0.false)) c.without_letter-rest.ensures.word
    in without-less A c.len-count.ensures.admissible words c.len-count.ensures.closed c.args.i c.requires.member c.args.at c.requires.at
    c.in-Some.k c.in-Some.ensures.0 (c.in-Some.ensures.1 ∙ next)

pub returns-then-at-eq0-clause-shorter : goal.returns-then-at-eq0-clause-shorter
returns-then-at-eq0-clause-shorter t c = c.link-link.ensures.inward
