-- Each member to which x is raised stands for it and has a greater number.
use Rattle.std.proofs.Common.{arith}
use Rattle.cox_base.specs.IntegerMatrix.{integer_matrix}
use Rattle.cox_context.specs.Numbers.{word_at}
use Rattle.cox_context.proofs.Shifting.{later-not_below}
use Rattle.cox_row.proofs.LetterBits.{left-letters, right-letters}
use Rattle.cox_row.proofs.Raising.{raised-later, raised-outside, stands-trans}
use Rattle.cox_row.proofs.raised.raise_by.Goals as goal

pub loop-at-smaller : goal.loop-at-smaller
loop-at-smaller c =
    let later = raised-later (integer_matrix c.args.ctx.now.matrix) c.len-len.ensures.admissible c.args.ctx.now.members
    c.len-len.ensures.closed (word_at c.args.ctx.now.members c.args.i) c.loop-at.at c.in-To.next c.loop-at.invariant.within
    (c.in-To.ensures (word_at c.args.ctx.now.members c.args.i) c.requires.left c.requires.right)
    in omega (arith, later.0)

pub loop-at-preserved : goal.loop-at-preserved
loop-at-preserved c =
    let later = raised-later (integer_matrix c.args.ctx.now.matrix) c.len-len.ensures.admissible c.args.ctx.now.members
    c.len-len.ensures.closed (word_at c.args.ctx.now.members c.args.i) c.loop-at.at c.in-To.next c.loop-at.invariant.within
    (c.in-To.ensures (word_at c.args.ctx.now.members c.args.i) c.requires.left c.requires.right)
    in record {
      within = later.1;
      stands = stands-trans (integer_matrix c.args.ctx.now.matrix) c.len-len.ensures.admissible c.loop-at.invariant.stands later.2;
    }

pub returns-in-Outside : goal.returns-in-Outside
returns-in-Outside c = λ b. raised-outside (integer_matrix c.args.ctx.now.matrix) c.len-len.ensures.admissible c.args.ctx.now.members
    c.len-len.ensures.closed c.loop-at.at c.args.i c.requires.i
    (c.in-Outside.ensures (word_at c.args.ctx.now.members c.args.i) c.requires.left c.requires.right)
    (c.loop-at.invariant.stands.to b)

pub returns : goal.returns
returns c = λ b. later-not_below (integer_matrix c.args.ctx.now.matrix) c.len-len.ensures.admissible c.args.ctx.now.members
    c.len-len.ensures.closed c.loop-at.at c.args.i c.loop-at.invariant.within c.requires.i (omega arith) (c.loop-at.invariant.stands.to b)

pub raise_once-requires-clause-left : goal.raise_once-requires-clause-left
raise_once-requires-clause-left c = left-letters (integer_matrix c.args.ctx.now.matrix) c.len-len.ensures.admissible
    (word_at c.args.ctx.now.members c.args.i) c.args.left c.requires.left

pub raise_once-requires-clause-right : goal.raise_once-requires-clause-right
raise_once-requires-clause-right c = right-letters (integer_matrix c.args.ctx.now.matrix) c.len-len.ensures.admissible
    (word_at c.args.ctx.now.members c.args.i) c.args.right c.requires.right
