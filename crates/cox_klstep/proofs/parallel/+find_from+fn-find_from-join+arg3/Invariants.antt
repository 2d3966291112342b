-- Fewer threads are left.
use Rattle.std.proofs.Common.{◌+◌, ◌-◌, ◌*◌}
use Rattle.cox_klstep.proofs.parallel.+find_from+fn-find_from-join+arg3.Given as goal

abbrev pub decreases-find_from : goal.decreases-find_from
decreases-find_from g l = 2 * (l.threads - l.thread)

abbrev pub decreases-join+arg3 : goal.decreases-join+arg3
decreases-join+arg3 g l = 2 * (l.threads - l.next) + 1
