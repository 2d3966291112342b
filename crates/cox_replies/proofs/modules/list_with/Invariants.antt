-- What the loop of `list_with` keeps: no list so far has the number.
use Rattle.std.proofs.Common.{ℕ, ◌<◌, Contains}
use Rattle.cox_cells.specs.NumberedCells.{lists_of, list_at}
use Rattle.cox_replies.proofs.modules.list_with.Given as goal

abbrev pub invariant-loop-list : goal.invariant-loop-list
invariant-loop-list l = (j : ℕ) → j < l.list-index → Contains (list_at (lists_of l.lists) j) l.i → ⊥
