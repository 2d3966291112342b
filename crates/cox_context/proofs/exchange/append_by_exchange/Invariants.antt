-- The element of the letters that were taken is a member.
use Rattle.std.proofs.Common.{◌≡◌, ◌≤◌, ◌-◌, drop, length, Some}
use Rattle.cox_base.specs.IntegerMatrix.{integer_matrix}
use Rattle.cox_base.specs.ShortLex.{normal_form}
use Rattle.cox_context.specs.Numbering.{IsNumberOf}
use Rattle.cox_context.specs.Spread.{AreAppended}
use Rattle.cox_context.proofs.exchange.append_by_exchange.Given as goal

abbrev pub invariant-loop-done : goal.invariant-loop-done
invariant-loop-done l = record {
  matrix : l.context.matrix ≡ l.initial.context.matrix;
  appended : AreAppended (integer_matrix l.initial.context.matrix) l.top.items l.initial.context.members l.context.members;
  few : length l.context.members ≤ l.limit;
  number : IsNumberOf l.context.members
      (normal_form (integer_matrix l.initial.context.matrix) (drop (length l.top.items - l.done) l.top.items)) (Some l.at);
}
