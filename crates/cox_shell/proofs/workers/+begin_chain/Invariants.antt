-- The shorter element has a smaller number.
use Rattle.cox_shell.proofs.workers.+begin_chain.Given as goal

abbrev pub decreases-begin_chain : goal.decreases-begin_chain
decreases-begin_chain l = l.i
