-- The seat only looks.
use Rattle.cox_workers.proofs.worker_context.WorkerContext.wait_once.Goals as goal

pub returns-in-Published-clause-kept : goal.returns-in-Published-clause-kept
returns-in-Published-clause-kept g c = c.look.ensures.kept c.args.i

pub returns-in-Void-clause-kept : goal.returns-in-Void-clause-kept
returns-in-Void-clause-kept g c = c.look.ensures.kept c.args.i

pub returns-in_default-clause-kept : goal.returns-in_default-clause-kept
returns-in_default-clause-kept g c = c.look.ensures.kept c.args.i
