-- The inverses of the members before i, and there is room for the rest.
use Rattle.std.proofs.Common.{◌≡◌, ◌≤◌, length, vec_capacity}
use Rattle.cox_base.specs.IntegerMatrix.{integer_matrix}
use Rattle.cox_context.specs.Inverses.{AreInverses}
use Rattle.cox_context.proofs.inverses.inverses.Given as goal

abbrev pub invariant-loop-i : goal.invariant-loop-i
invariant-loop-i l = record {
  size : length l.table.items ≡ l.i;
  known : AreInverses (integer_matrix l.shifts.matrix) l.shifts.members l.table.items;
  room : length l.shifts.members ≤ vec_capacity l.table;
}
