-- The vertices so far are in the lists of their classes.
use Rattle.std.proofs.Common.{◌≡◌, length}
use Rattle.cox_cells.specs.NumberedCells.{AreGathered, lists_of}
use Rattle.cox_cells.proofs.gathering.gather.Given as goal

abbrev pub invariant-loop-i : goal.invariant-loop-i
invariant-loop-i l = record {
  gathered : AreGathered l.classes l.i l.places.items (lists_of l.cells.items);
  size : length l.places.items ≡ length l.classes;
}
