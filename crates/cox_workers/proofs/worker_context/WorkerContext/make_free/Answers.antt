-- The row was Free, or not.
use Rattle.cox_workers.proofs.Working.{work-trans, work-same}
use Rattle.cox_workers.proofs.worker_context.WorkerContext.make_free.Goals as goal

pub returns-then-eq : goal.returns-then-eq
returns-then-eq g c =
    work-trans (work-same c.requires.ready c.look.ensures.own (c.look.ensures.kept c.args.member)) c.ensure.ensures.work

pub returns-else-eq : goal.returns-else-eq
returns-else-eq g c = work-same c.requires.ready c.look.ensures.own (c.look.ensures.kept c.args.member)
