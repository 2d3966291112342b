-- What was found so far.
use Rattle.std.proofs.Common.{◌-◌}
use Rattle.cox_klstep.specs.FoundTogether.{AreFound}
use Rattle.cox_klstep.proofs.parallel.find_by.Given as goal

abbrev pub invariant-loop-k : goal.invariant-loop-k
invariant-loop-k l = AreFound l.task.ctx.now l.task.member l.found.items

abbrev pub decreases-loop-k : goal.decreases-loop-k
decreases-loop-k l = l.end - l.k
