-- What the loop of `put_cell_list` keeps.
use Rattle.std.proofs.Common.{◌≡◌, ◌++◌, take}
use Rattle.std.specs.List.{flat_map}
use Rattle.cox_replies.proofs.GroupTexts.{cell_line}
use Rattle.cox_replies.proofs.graphs.put_cell_list.Given as goal

abbrev pub invariant-loop-cell : goal.invariant-loop-cell
invariant-loop-cell l =
    l.out.items ≡ l.initial.out.items ++ flat_map (cell_line l.context.matrix.rank l.context.members) (take l.cell-index l.cells)
