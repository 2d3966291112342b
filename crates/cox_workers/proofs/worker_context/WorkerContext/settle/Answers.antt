-- The seat looked, and then the row was made or given up.
use Rattle.cox_workers.proofs.SeatSteps.{kept-trans}
use Rattle.cox_workers.proofs.worker_context.WorkerContext.settle.Goals as goal

pub returns-in-Published-clause-kept : goal.returns-in-Published-clause-kept
returns-in-Published-clause-kept g c = c.look.ensures.kept c.args.member

pub returns-in-Some-clause-kept : goal.returns-in-Some-clause-kept
returns-in-Some-clause-kept g c = kept-trans c.args.self.now.context.now c.args.member c.args.seat.now c.look.new.seat
    c.ensure.new.seat (c.look.ensures.kept c.args.member) c.ensure.ensures.work.kept

pub returns-in-None-clause-kept : goal.returns-in-None-clause-kept
returns-in-None-clause-kept g c = kept-trans c.args.self.now.context.now c.args.member c.args.seat.now c.look.new.seat
    c.give_up.new.seat (c.look.ensures.kept c.args.member) c.give_up.ensures.kept
