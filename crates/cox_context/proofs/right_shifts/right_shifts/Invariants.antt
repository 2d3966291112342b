-- The table has the entries of the members before i.
use Rattle.std.proofs.Common.{◌≡◌, ◌*◌, length}
use Rattle.cox_base.specs.IntegerMatrix.{integer_matrix}
use Rattle.cox_context.specs.Shifts.{AreRightShifts}
use Rattle.cox_context.proofs.right_shifts.right_shifts.Given as goal

abbrev pub invariant-loop-i : goal.invariant-loop-i
invariant-loop-i l = record {
  size : length l.table.items ≡ l.i * l.shifts.matrix.rank;
  shifts : AreRightShifts (integer_matrix l.shifts.matrix) l.shifts.members l.table.items;
}
