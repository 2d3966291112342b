-- The plan is that of the member, and its limit is that of the rows.
use Rattle.std.proofs.Common.{◌≡◌, ◌∙◌}
use Rattle.cox_row_store.specs.Stores.{limit_of}
use Rattle.cox_workers.proofs.worker_context.WorkerContext.made_from.Goals as goal

pub finished-requires-clause-plan : goal.finished-requires-clause-plan
finished-requires-clause-plan g c = λ κs lives. rw c.in-Planned.is at c.in_ok-row.ensures.plan

pub returns-in-Planned-clause-row : goal.returns-in-Planned-clause-row
returns-in-Planned-clause-row g c =
    let member : c.in-Planned.plan.step.member ≡ c.args.i = rw c.in-Planned.is at c.in_ok-row.ensures.member in
    rw member at c.finished.ensures.row

pub returns-in-Planned-clause-within : goal.returns-in-Planned-clause-within
returns-in-Planned-clause-within g c =
    let limit : c.in-Planned.plan.limit ≡ limit_of c.args.self.now.store.now =
    (rw c.in-Planned.is at c.in_ok-row.ensures.limit) ∙ c.requires.rows.limit in
    rw limit at c.finished.ensures.within

pub returns-in-Planned-clause-fault : goal.returns-in-Planned-clause-fault
returns-in-Planned-clause-fault g c =
    let member : c.in-Planned.plan.step.member ≡ c.args.i = rw c.in-Planned.is at c.in_ok-row.ensures.member in
    let limit : c.in-Planned.plan.limit ≡ limit_of c.args.self.now.store.now =
    (rw c.in-Planned.is at c.in_ok-row.ensures.limit) ∙ c.requires.rows.limit in
    rw (member, limit) at c.finished.ensures.fault
