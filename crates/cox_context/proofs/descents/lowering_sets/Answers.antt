-- One set more.
use Rattle.cox_context.proofs.PushedRows.{lowering-push}
use Rattle.cox_context.proofs.descents.lowering_sets.Goals as goal

pub loop-i-preserved : goal.loop-i-preserved
loop-i-preserved c = rw c.in_ok-push.ensures.items (lowering-push c.args.rank c.args.table.now c.loop-i.i c.loop-i.sets.items
    c.lowering_set.result c.loop-i.invariant c.lowering_set.ensures)
