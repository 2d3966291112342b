-- One entry more keeps the table right.
use Rattle.std.proofs.Common.{◌∷◌, [], length-append, arith}
use Rattle.cox_base.specs.IntegerMatrix.{integer_matrix}
use Rattle.cox_reflect.proofs.Admissible.{IsAdmissible-integer_matrix}
use Rattle.cox_context.proofs.RightShifts.{right-found}
use Rattle.cox_context.proofs.right_shifts.push_row.Goals as goal

pub loop-s-preserved : goal.loop-s-preserved
loop-s-preserved c = record {
  size = rw c.in_ok-push.ensures.items
      (omega (arith, length-append c.loop-s.table.items (c.unwrap_or.result ∷ []), c.loop-s.invariant.size, c.loop-s.auto.s));
  shifts = rw (c.in_ok-push.ensures.items, c.unwrap_or.ensures)
      (right-found (integer_matrix c.args.shifts.now.matrix)
      (IsAdmissible-integer_matrix c.args.shifts.now.matrix c.rank-rank.ensures.matrix) c.args.shifts.now.members
      c.rank-rank.ensures.closed c.loop-s.table.items c.loop-s.s c.args.i c.right_shift-shift.result
      c.loop-s.invariant.shifts (record {
        from_one = c.loop-s.auto.s;
        to_rank = omega
            (arith, c.rank-rank.ensures.rank);
      }) c.loop-s.invariant.size c.right_shift-shift.ensures);
}
