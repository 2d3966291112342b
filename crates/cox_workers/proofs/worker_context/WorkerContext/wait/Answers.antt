-- The seat only looks. If the row is Void, it is that row itself.
use Rattle.std.proofs.Common.{refl, ◌∙◌}
use Rattle.cox_workers.proofs.SeatSteps.{kept-trans, looked_void}
use Rattle.cox_workers.proofs.worker_context.WorkerContext.wait.Goals as goal

pub returns-in-Published-clause-kept : goal.returns-in-Published-clause-kept
returns-in-Published-clause-kept g c = kept-trans c.args.self.now.context.now c.args.i c.args.seat.now c.loop.seat c.wait_once.new.seat
    c.loop.invariant.kept c.wait_once.ensures.kept

pub returns-in-Published-clause-here : goal.returns-in-Published-clause-here
returns-in-Published-clause-here g c = (c.in-Published.ensures.published refl, c.wait_once.ensures.none ∙ c.loop.invariant.none)

pub returns-in-Void-clause-kept : goal.returns-in-Void-clause-kept
returns-in-Void-clause-kept g c = kept-trans c.args.self.now.context.now c.args.i c.args.seat.now c.loop.seat c.wait_once.new.seat
    c.loop.invariant.kept c.wait_once.ensures.kept

pub returns-in-Void-clause-missing : goal.returns-in-Void-clause-missing
returns-in-Void-clause-missing g c =
    looked_void c.args.self.now.context.now c.len-len.ensures.admissible c.args.i c.args.seat.now c.loop.seat c.wait_once.new.seat
    c.requires.member
    c.loop.invariant.none (c.in-Void.ensures.void refl)

pub loop-preserved : goal.loop-preserved
loop-preserved g c = record {
  own = c.wait_once.ensures.own;
  kept = kept-trans c.args.self.now.context.now c.args.i c.args.seat.now c.loop.seat c.wait_once.new.seat c.loop.invariant.kept
      c.wait_once.ensures.kept;
  none = c.wait_once.ensures.none ∙ c.loop.invariant.none;
}
