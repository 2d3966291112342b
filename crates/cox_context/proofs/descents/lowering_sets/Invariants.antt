-- The sets of the members before i.
use Rattle.cox_context.specs.Sets.{AreLoweringSets}
use Rattle.cox_context.proofs.descents.lowering_sets.Given as goal

abbrev pub invariant-loop-i : goal.invariant-loop-i
invariant-loop-i l = AreLoweringSets l.rank l.table l.i l.sets.items
