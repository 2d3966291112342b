-- The set has the simple roots so far.
use Rattle.cox_base.specs.IntegerMatrix.{integer_matrix}
use Rattle.cox_minroots.proofs.SimpleRoots.{IsStarting}
use Rattle.cox_minroots.proofs.closure.simple_roots.Given as goal

abbrev pub invariant-loop-s : goal.invariant-loop-s
invariant-loop-s l = IsStarting (integer_matrix l.g) l.roots l.s
