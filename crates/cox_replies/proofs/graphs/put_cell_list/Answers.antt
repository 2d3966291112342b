-- The proof of `put_cell_list`.
use Rattle.std.proofs.Common.{◌<◌, length, decimal, arith, rules}
use Rattle.std.specs.List.{flat_map}
use Rattle.cox_poly.proofs.Behind.{PutsPrefix-next, PutsPrefix-second, Puts-failed, Puts-first, append-all, append-second}
use Rattle.cox_replies.proofs.GroupTexts.{cell_line, cells-text, cell-within}
use Rattle.cox_replies.proofs.graphs.put_cell_list.Goals as goal

pub returns-in_err-put_count : goal.returns-in_err-put_count
returns-in_err-put_count c =
    let context = c.args.context.now in
    let cells = c.args.cells.now in
    rw (cells-text context.matrix.rank context.members cells)
    (Puts-first _ (decimal (length cells)) (flat_map (cell_line context.matrix.rank context.members) cells) _ _ (search rules)
    (c.in_err-put_count.ensures {u = tt}))

pub returns : goal.returns
returns c =
    let context = c.args.context.now in
    let cells = c.args.cells.now in
    let whole = append-all (cell_line context.matrix.rank context.members) cells c.loop-cell.cell-index _ _
    (omega arith) c.loop-cell.invariant in
    rw (cells-text context.matrix.rank context.members cells)
    (append-second (decimal (length cells)) _ _ _ _ (c.in_ok-put_count.ensures {u = tt}) whole)

pub put_next_cell-requires : goal.put_next_cell-requires
put_next_cell-requires c = rw c.deref.ensures.value (cell-within (λ i. i < length c.args.context.now.members) c.args.cells.now
    c.loop-cell.cell-index
    c.cell-item.result c.loop-cell-test.true c.cell-item.is c.requires)

pub returns-in_err-put_next_cell : goal.returns-in_err-put_next_cell
returns-in_err-put_next_cell c =
    let context = c.args.context.now in
    let cells = c.args.cells.now in
    let line = cell_line context.matrix.rank context.members in
    let prefix = PutsPrefix-next line cells c.loop-cell.cell-index c.cell-item.result c.cell-item.result _ _ _ c.loop-cell-test.true
    c.cell-item.is c.loop-cell.invariant (rw c.deref.ensures.value at (c.in_err-put_next_cell.ensures {u = tt})) in
    rw (cells-text context.matrix.rank context.members cells)
    (Puts-failed _ _ _ _ (search rules) (PutsPrefix-second (decimal (length cells)) _ _ _ _ (c.in_ok-put_count.ensures {u = tt}) prefix))
