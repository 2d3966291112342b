-- The pool has each polynomial once, and no more than there are members.
use Rattle.std.proofs.Common.{◌≤◌, length, sym, arith}
use Rattle.std.specs.Arc.{arc_value}
use Rattle.cox_base.specs.IntegerMatrix.{integer_matrix}
use Rattle.cox_row.proofs.RisingNumbers.{rising-few}
use Rattle.cox_row.proofs.ViewedPolynomials.{row-polynomials}
use Rattle.cox_row.proofs.look_up.pool_len.Goals as goal

pub overflow_cast-result : goal.overflow_cast-result
overflow_cast-result c =
    let values = c.requires.row.values
    in let few : length (arc_value c.args.row.now.values).extremal.items ≤ length c.args.ctx.now.members
    = rising-few (length c.args.ctx.now.members) (arc_value c.args.row.now.values).extremal.items values.extremal.rising
    values.extremal.within
    in let polynomials = values.polynomials
    in omega (arith, few, rw c.pool.ensures at c.len.ensures, polynomials.size, polynomials.distinct.few, c.len-len.ensures.closed.few)

pub returns : goal.returns
returns c = (
  (arc_value c.args.row.now.values).pool,
  row-polynomials (integer_matrix c.args.ctx.now.matrix) c.len-len.ensures.admissible c.args.ctx.now.members c.len-len.ensures.closed
      c.args.i c.requires.i c.args.row.now c.requires.row,
  sym (rw c.pool.ensures at c.len.ensures),
)
