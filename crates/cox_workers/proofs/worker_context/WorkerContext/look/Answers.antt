-- The seat only looks.
use Rattle.cox_workers.proofs.SeatSteps.{looked_kept, looked_none}
use Rattle.cox_workers.proofs.worker_context.WorkerContext.look.Goals as goal

pub returns-clause-kept : goal.returns-clause-kept
returns-clause-kept c = λ i. looked_kept c.args.self.now.context.now i c.args.member c.args.seat.now c.look.new.seat c.look.result
    c.look.ensures.seat c.look.ensures.splits c.look.ensures.step.after c.look.ensures.step.kept

pub returns-clause-none : goal.returns-clause-none
returns-clause-none c = looked_none c.args.seat.now c.look.new.seat c.args.member c.look.result c.look.ensures.step.after
