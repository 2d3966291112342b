-- The needs of the rows so far were copied.
use Rattle.std.proofs.Common.{◌≡◌, map, take, vec_items}
use Rattle.cox_fill_core.proofs.lists.copy_needs.Given as goal

abbrev pub invariant-loop-row : goal.invariant-loop-row
invariant-loop-row l = l.copy.items ≡ map vec_items (take l.row-index l.needs)
