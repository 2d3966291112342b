-- The proof of `asked_member`.
use Rattle.cox_answers.proofs.answers.prefetch.asked_member.Goals as goal

pub number_of-requires-clause-letters : goal.number_of-requires-clause-letters
number_of-requires-clause-letters c = c.in_ok-w.ensures c.args.table.now.rank (c.need_of-need.ensures.letters _ c.requires.words)
