-- The moves so far.
use Rattle.cox_base.specs.IntegerMatrix.{integer_matrix}
use Rattle.cox_minroots.proofs.Targets.{IsFilling}
use Rattle.cox_minroots.proofs.moves.moves.Given as goal

abbrev pub invariant-loop-place : goal.invariant-loop-place
invariant-loop-place l = IsFilling (integer_matrix l.g) l.roots l.moves.items l.place
