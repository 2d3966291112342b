-- x is extremal where no letter is missing on either side.
use Rattle.cox_base.specs.IntegerMatrix.{integer_matrix}
use Rattle.cox_context.specs.Numbers.{word_at}
use Rattle.cox_row.proofs.LetterBits.{none-extremal, extremal-right}
use Rattle.cox_row.proofs.raised.is_extremal.Goals as goal

pub returns-then-is_subset : goal.returns-then-is_subset
returns-then-is_subset c = (
  λ t. none-extremal (integer_matrix c.args.ctx.now.matrix) c.len-len.ensures.admissible (word_at c.args.ctx.now.members c.args.i)
      (word_at c.args.ctx.now.members c.args.x) c.left_descent_set.result c.right_descent_set.result c.left_descent_set-2.result
      c.right_descent_set-then-is_subset.result c.left_descent_set.ensures c.right_descent_set.ensures c.left_descent_set-2.ensures
      c.right_descent_set-then-is_subset.ensures (c.is_subset.ensures.0 c.if-is_subset.true) (c.is_subset-then-is_subset.ensures.0 t),
  λ e. c.is_subset-then-is_subset.ensures.1 (extremal-right (integer_matrix c.args.ctx.now.matrix)
      (word_at c.args.ctx.now.members c.args.i) (word_at c.args.ctx.now.members c.args.x) c.right_descent_set.result
      c.right_descent_set-then-is_subset.result e c.right_descent_set.ensures c.right_descent_set-then-is_subset.ensures),
)
