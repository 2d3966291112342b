-- The neighbours of a member more.
use Rattle.std.proofs.Common.{◌≡◌, ◌++◌, length, arith}
use Rattle.cox_cells.specs.NeighbourLists.{HasNeighbours}
use Rattle.cox_cells.proofs.NeighbourLists.{neighbours-more}
use Rattle.cox_cells.proofs.neighbours.Neighbours.of.Goals as goal

pub loop-j-preserved : goal.loop-j-preserved
loop-j-preserved g c =
    let e = c.args.context.now in
    let list : HasNeighbours e c.loop-j.j c.neighbours.result.now = record {
      values = c.row.result.now.mu.items;
      mus = rw c.neighbours.ensures (rw c.requires.rows at c.row.ensures.row).mus;
    } in
    let end : c.len-in-loop-j.result ≡ length (c.loop-j.numbers.items ++ c.neighbours.result.now)
    = rw (← c.in_ok-extend_from_slice.ensures.items) (omega (arith, c.len-in-loop-j.ensures, c.extend_from_slice.new.self.ok))
    in rw (c.in_ok-push-2.ensures.items, c.in_ok-extend_from_slice.ensures.items) (neighbours-more e c.loop-j.j c.loop-j.offsets.items
    c.loop-j.numbers.items c.neighbours.result.now c.len-in-loop-j.result c.loop-j.invariant list end)
