-- The steps by the letters before s are in the set.
use Rattle.cox_base.specs.IntegerMatrix.{integer_matrix}
use Rattle.cox_minroots.proofs.Stepping.{IsStepping}
use Rattle.cox_minroots.proofs.closure.add_steps.Given as goal

abbrev pub invariant-loop-s : goal.invariant-loop-s
invariant-loop-s l = IsStepping (integer_matrix l.g) l.initial.roots l.roots l.i l.s
