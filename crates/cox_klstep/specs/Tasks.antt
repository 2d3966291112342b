-- A row that is to be made.
use Rattle.std.specs.Prelude.{◌<◌, length}
use Rattle.cox_klstep.specs.LoweredTo.{IsLoweredBy}
use Rattle.cox_klstep.specs.SourceOf.{IsSource}
use Rattle.cox_klstep.specs.declared.task.RowTask.{RowTask}

-- it is that of a member of the context, which has what the row is made from, and the extremal members below that one
pub record IsTask (task : RowTask) : Type 0 where
  pub member : task.member < length task.ctx.now.members
  pub source : IsSource task.ctx.now task.member task.source.now
  pub lowered : IsLoweredBy task.ctx.now task.member task.source.now.step.now task.lowered.now
