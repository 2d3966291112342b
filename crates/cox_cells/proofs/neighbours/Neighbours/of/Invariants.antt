-- The neighbours of the members so far.
use Rattle.cox_cells.specs.NeighbourLists.{AreNeighbours}
use Rattle.cox_cells.proofs.neighbours.Neighbours.of.Given as goal

abbrev pub invariant-loop-j : goal.invariant-loop-j
invariant-loop-j g l = AreNeighbours l.context l.j l.offsets.items l.numbers.items
