-- The cells made so far.
use Rattle.std.proofs.Common.{◌≡◌, length}
use Rattle.cox_row_store.specs.Places.{ArePlaces}
use Rattle.cox_row_store.proofs.store.cells_of.Given as goal

abbrev pub invariant-loop-member : goal.invariant-loop-member
invariant-loop-member l = (length l.cells.items ≡ l.member) × ArePlaces l.context l.limit l.cells.items
