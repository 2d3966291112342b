-- One entry more; at the end the table has those of all members.
use Rattle.std.proofs.Common.{arith}
use Rattle.cox_lemmas.proofs.PushedItems.{push-length}
use Rattle.cox_base.specs.IntegerMatrix.{integer_matrix}
use Rattle.cox_reflect.proofs.Admissible.{IsAdmissible-integer_matrix}
use Rattle.cox_context.proofs.InverseNumbers.{inverses-push}
use Rattle.cox_context.proofs.inverses.inverses.Goals as goal

pub loop-i-preserved : goal.loop-i-preserved
loop-i-preserved c = record {
  size = rw c.push_reserved.ensures.items (omega (arith, push-length c.loop-i.table.items c.unwrap_or.result, c.loop-i.invariant.size));
  known = rw (c.push_reserved.ensures.items, c.unwrap_or.ensures)
      (inverses-push (integer_matrix c.args.shifts.now.matrix)
      (IsAdmissible-integer_matrix c.args.shifts.now.matrix c.rank-rank.ensures.matrix) c.args.shifts.now.members c.rank-rank.ensures.closed
      c.loop-i.table.items c.loop-i.i c.inverse_by_rest-inverse.result c.loop-i.invariant.known c.loop-i.invariant.size
      c.inverse_by_rest-inverse.ensures);
  room = omega (arith, c.loop-i.invariant.room, c.push_reserved.ensures.capacity);
}
