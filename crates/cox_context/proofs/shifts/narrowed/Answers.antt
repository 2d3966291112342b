-- One entry more.
use Rattle.std.proofs.Common.{rules}
use Rattle.cox_context.proofs.NarrowTables.{narrow-push}
use Rattle.cox_context.proofs.shifts.narrowed.Goals as goal

pub loop-number-preserved : goal.loop-number-preserved
loop-number-preserved c = record {
  size = search rules;
  narrow = rw c.push_reserved.ensures.items (narrow-push c.args.table.now c.loop-number.narrow.items c.narrow_entry.result
      c.loop-number.invariant.narrow (rw c.loop-number.invariant.size c.narrow_entry.ensures));
  room = rw c.push_reserved.ensures.capacity c.loop-number.invariant.room;
}
