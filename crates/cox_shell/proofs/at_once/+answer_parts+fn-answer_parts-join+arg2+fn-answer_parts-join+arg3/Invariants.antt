-- The number of workers falls.
use Rattle.std.proofs.Common.{◌+◌, ◌*◌}
use Rattle.cox_shell.proofs.at_once.+answer_parts+fn-answer_parts-join+arg2+fn-answer_parts-join+arg3.Given as goal

abbrev pub decreases-join+arg2 : goal.decreases-join+arg2
decreases-join+arg2 g l = 2 * l.low + 1

abbrev pub decreases-join+arg3 : goal.decreases-join+arg3
decreases-join+arg3 g l = 2 * l.high + 1

abbrev pub decreases-answer_parts : goal.decreases-answer_parts
decreases-answer_parts g l = 2 * l.workers
