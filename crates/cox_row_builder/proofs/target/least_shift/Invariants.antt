-- The least number of a shift by one of the letters so far.
use Rattle.cox_base.specs.IntegerMatrix.{integer_matrix}
use Rattle.cox_row_builder.proofs.Shifts.{IsLeastUpTo}
use Rattle.cox_row_builder.proofs.target.least_shift.Given as goal

abbrev pub invariant-loop-s : goal.invariant-loop-s
invariant-loop-s l = IsLeastUpTo (integer_matrix l.ctx.matrix) l.ctx.members l.i l.from l.s l.least
