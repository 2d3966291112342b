-- A row that was won is given up, and the seat holds what it held.
use Rattle.cox_workers.proofs.SeatSteps.{kept-refl, voided_kept}
use Rattle.cox_workers.proofs.worker_context.WorkerContext.give_up.Goals as goal

pub returns-in-Won-clause-kept : goal.returns-in-Won-clause-kept
returns-in-Won-clause-kept g c =
    let e = c.args.self.now.context.now in
    voided_kept e c.len-len.ensures.admissible c.args.member c.requires.member c.args.seat.now c.claim.new.seat c.claim.new.seat
    c.void.new.seat c.claim.ensures.seat c.claim.ensures.splits c.in-Won.ensures.step (kept-refl e c.args.member c.claim.new.seat)
    c.void.ensures.seat c.void.ensures.splits c.void.ensures.step
