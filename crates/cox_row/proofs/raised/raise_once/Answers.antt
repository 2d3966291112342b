-- A missing letter raises x, and where none is missing x is extremal.
use Rattle.cox_base.specs.IntegerMatrix.{integer_matrix}
use Rattle.cox_context.specs.Numbers.{word_at}
use Rattle.cox_row.proofs.LetterBits.{missing-letter, none-extremal}
use Rattle.cox_row.proofs.Raising.{leads-left, leads-right}
use Rattle.cox_row.proofs.raised.raise_once.Goals as goal

pub left-requires-clause-letter : goal.left-requires-clause-letter
left-requires-clause-letter c = missing-letter c.args.ctx.now.matrix.rank c.args.left c.left_descent_set.result c.in-Some.s c.requires.left
    c.in-Some.ensures.some

pub returns-in-Some : goal.returns-in-Some
returns-in-Some c = λ w l r. rw c.raise_to.ensures (leads-left (integer_matrix c.args.ctx.now.matrix) c.args.ctx.now.members w
    (word_at c.args.ctx.now.members c.args.x) c.args.left c.left_descent_set.result c.in-Some.s c.in-Some.ensures.some c.left.result l
    c.left_descent_set.ensures c.left.ensures)

pub right-requires-clause-letter : goal.right-requires-clause-letter
right-requires-clause-letter c = missing-letter c.args.ctx.now.matrix.rank c.args.right c.right_descent_set.result c.in-Some-missing.s
    c.requires.right c.in-Some-missing.ensures.some

pub returns-in-Some-missing : goal.returns-in-Some-missing
returns-in-Some-missing c = λ w l r. rw c.raise_to-in-Some-missing.ensures (leads-right (integer_matrix c.args.ctx.now.matrix)
    c.args.ctx.now.members w (word_at c.args.ctx.now.members c.args.x) c.args.right c.right_descent_set.result c.in-Some-missing.s
    c.in-Some-missing.ensures.some c.right.result r c.right_descent_set.ensures c.right.ensures)

pub returns : goal.returns
returns c = λ w l r. none-extremal (integer_matrix c.args.ctx.now.matrix) c.requires.admissible w
    (word_at c.args.ctx.now.members c.args.x) c.args.left c.args.right c.left_descent_set.result c.right_descent_set.result l r
    c.left_descent_set.ensures c.right_descent_set.ensures c.in_default.ensures.none c.in_default-missing.ensures.none
