-- The same holds with one event more.
use Rattle.std.proofs.Common.{arith}
use Rattle.cox_fill_core.specs.declared.event.Event.{Event}
use Rattle.cox_fill_core.proofs.Runs.{after_all_more, replies_more, one_answer_more, same_shape}
use Rattle.cox_fill_core.proofs.machine.Core.run.Goals as goal

pub loop-event-preserved : goal.loop-event-preserved
loop-event-preserved c =
    let i = c.loop-event.invariant in
    let takes = c.take.ensures in record {
      replies = replies_more _ _ _ _ _ _ _ _ _ (Event.Claim 0 0) c.push_reserved.ensures.items i.shape.needs i.state c.loop-event-test.true
          i.replies takes.reply_is;
      state = after_all_more _ _ _ _ _ _ _ (Event.Claim 0 0) i.shape.needs i.state c.loop-event-test.true takes.state;
      shape = same_shape _ _ _ i.shape takes.shape;
      room = omega (arith, i.room, c.push_reserved.ensures.capacity);
      count = one_answer_more _ _ _ _ c.push_reserved.ensures.items i.count;
    }
