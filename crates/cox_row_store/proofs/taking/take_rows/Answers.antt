-- One cell more.
use Rattle.std.proofs.Common.{◌++◌, [], ◌∷◌, length, ap, ◌∙◌, sym, subst, append_assoc, arith}
use Rattle.std.specs.Vec.Iter.{into_iter_items}
use Rattle.cox_claims.specs.Knowledge.{Looks}
use Rattle.cox_claims.specs.Seats.{view_of}
use Rattle.cox_claims.proofs.Views.{sees-trans}
use Rattle.cox_row_store.proofs.OneMore.{takes_more}
use Rattle.cox_row_store.proofs.taking.take_rows.Goals as goal

pub loop-cell-preserved : goal.loop-cell-preserved
loop-cell-preserved g c =
    let was = c.loop-cell.invariant in
    let start = view_of c.args.seat.now in
    let before = view_of c.loop-cell.seat in
    let after = view_of c.look-state.new.seat in
    let look : Looks before (length c.loop-cell.rows.items) c.look-state.result after =
    subst (λ k. Looks before k c.look-state.result after) (omega (arith, c.len.ensures, c.loop-cell.rows.ok)) c.look-state.ensures.step
    in record {
      all = append_assoc c.loop-cell.yielded (c.in-Some.cell ∷ []) (into_iter_items c.next.new.self)
          ∙ ap (λ rest. c.loop-cell.yielded ++ rest) (sym c.in-Some.ensures.steps.0) ∙ was.all;
      own = c.look-state.ensures.seat.table ∙ was.own;
      sees = sees-trans start before after was.sees look.kept;
      taken = rw c.push_reserved.ensures.items
          (takes_more c.loop-cell.yielded start before after c.loop-cell.rows.items c.in-Some.cell c.look-state.result c.take_row.result
          was.taken was.sees look c.take_row.ensures.row c.take_row.ensures.there c.take_row.ensures.none);
      room = c.push_reserved.ensures.capacity ∙ was.room;
    }
