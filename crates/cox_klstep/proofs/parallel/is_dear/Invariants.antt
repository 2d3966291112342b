-- The place is in range.
use Rattle.std.proofs.Common.{◌-◌, ◌≤◌, length}
use Rattle.cox_klstep.proofs.parallel.is_dear.Given as goal

abbrev pub invariant-loop-x : goal.invariant-loop-x
invariant-loop-x l = l.passed ≤ length l.corrections

abbrev pub invariant-loop-passed : goal.invariant-loop-passed
invariant-loop-passed l = l.passed ≤ length l.corrections

abbrev pub decreases-loop-passed : goal.decreases-loop-passed
decreases-loop-passed l = length l.corrections - l.passed
