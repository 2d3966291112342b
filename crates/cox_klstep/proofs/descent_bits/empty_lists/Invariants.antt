-- The lists so far.
use Rattle.cox_klstep.specs.DescentBits.{AreEmpty}
use Rattle.cox_klstep.proofs.descent_bits.empty_lists.Given as goal

abbrev pub invariant-loop : goal.invariant-loop
invariant-loop l = AreEmpty l.counter l.lists.items
