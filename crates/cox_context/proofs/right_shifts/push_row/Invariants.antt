-- The table has the entries of the members before i, and those of i for the letters before s.
use Rattle.std.proofs.Common.{◌≡◌, ◌+◌, ◌-◌, ◌*◌, length}
use Rattle.cox_base.specs.IntegerMatrix.{integer_matrix}
use Rattle.cox_context.specs.Shifts.{AreRightShifts}
use Rattle.cox_context.proofs.right_shifts.push_row.Given as goal

abbrev pub invariant-loop-s : goal.invariant-loop-s
invariant-loop-s l = record {
  size : length l.table.items ≡ l.i * l.shifts.matrix.rank + (l.s - 1);
  shifts : AreRightShifts (integer_matrix l.shifts.matrix) l.shifts.members l.table.items;
}
