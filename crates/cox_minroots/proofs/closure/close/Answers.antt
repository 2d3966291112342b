-- The steps of one root more are in the set.
use Rattle.cox_base.specs.IntegerMatrix.{integer_matrix}
use Rattle.cox_minroots.proofs.ClosingLoop.{closing-next}
use Rattle.cox_minroots.proofs.closure.close.Goals as goal

pub loop-i-preserved : goal.loop-i-preserved
loop-i-preserved c =
    closing-next (integer_matrix c.args.g.now) c.args.max c.loop-i.roots c.add_steps_within.new.roots c.loop-i.i c.loop-i.invariant
    (rw c.len.ensures at c.loop-i-test.true) c.in_ok-add_steps_within.ensures.few c.in_ok-add_steps_within.ensures.small
    c.in_ok-add_steps_within.ensures.longer c.in_ok-add_steps_within.ensures.steps
