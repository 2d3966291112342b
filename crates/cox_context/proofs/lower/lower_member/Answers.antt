-- Where t is s, t y is the member x itself.
use Rattle.cox_context.proofs.LowerWalks.{own-lower}
use Rattle.cox_context.proofs.lower.lower_member.Goals as goal

pub returns-then-t-s-clause-lower : goal.returns-then-t-s-clause-lower
returns-then-t-s-clause-lower c =
    rw c.if-t-s.true (own-lower c.args.shifts.now.matrix c.rank-rank.ensures.matrix c.args.shifts.now.members c.rank-rank.ensures.closed
    c.args.s c.args.i c.requires.letter_s c.requires.member c.requires.new)
