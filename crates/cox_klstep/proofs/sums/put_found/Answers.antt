-- The polynomial is added to nothing.
use Rattle.std.proofs.Common.{arith}
use Rattle.cox_base.specs.IntegerMatrix.{integer_matrix}
use Rattle.cox_context.specs.Numbers.{word_at}
use Rattle.cox_poly.specs.Polynomial.{coefficient}
use Rattle.cox_klstep.proofs.AddedSums.{alone-is}
use Rattle.cox_klstep.proofs.sums.put_found.Goals as goal

pub add_known-requires-clause-room : goal.add_known-requires-clause-room
add_known-requires-clause-room c = λ k. rw (c.requires.clear k) (omega arith)

pub returns-clause-value : goal.returns-clause-value
returns-clause-value c = alone-is (integer_matrix c.args.ctx.now.matrix) (word_at c.args.ctx.now.members c.args.x)
    (word_at c.args.ctx.now.members c.args.i) (coefficient c.args.polynomial.now) (coefficient c.args.sums.now)
    (coefficient c.add_known.new.sums) c.requires.clear (c.add_known.ensures.sum (coefficient c.args.polynomial.now) c.requires.found.value)
    c.requires.found.value
