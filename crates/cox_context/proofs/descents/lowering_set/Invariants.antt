-- The set of the letters before s.
use Rattle.cox_context.specs.Sets.{IsLoweringSet}
use Rattle.cox_context.proofs.descents.lowering_set.Given as goal

abbrev pub invariant-loop-s : goal.invariant-loop-s
invariant-loop-s l = IsLoweringSet l.rank l.table l.i l.s l.set
