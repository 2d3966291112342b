-- The rows that come back are those of the members, and each that was there is among them.
use Rattle.std.proofs.Common.{FitsSigned, rules, sym, w64, ◌∙◌, ⊎_elim}
use Rattle.std.proofs.lemmas.Int.{to_z-of_z}
use Rattle.cox_shell.proofs.RowsFromStore.{taken-held, taken-back}
use Rattle.cox_shell.proofs.workers.share.Goals as goal

pub adopt-requires : goal.adopt-requires
adopt-requires g c =
    let same = c.move_rows-seat.ensures.same in
    let fits : FitsSigned w64 c.limit.result = search rules in
    taken-held c.move_rows-seat.new.rows.elements _ c.move_rows-seat.new.rows.limit _ _ c.into_rows.result.items
    (c.in_ok-store.ensures.elements ∙ c.context.ensures.context ∙ sym same.elements)
    (c.in_ok-store.ensures.limit ∙ to_z-of_z w64 c.limit.result fits ∙ c.limit.ensures ∙ sym same.limit) c.into_rows.ensures

pub returns : goal.returns
returns g c =
    let moved = c.move_rows-seat.ensures in
    let put = c.adopt.ensures in
    let elements = c.in_ok-store.ensures.elements ∙ c.context.ensures.context in
    rw c.settle_held.ensures (record {
      same = record { elements = put.elements ∙ moved.same.elements; limit = put.limit ∙ moved.same.limit };
      there = λ i has. ⊎_elim (λ stays. put.kept i stays)
          (λ seen. put.added i (taken-back _ _ _ _ c.into_rows.ensures i (rw elements (c.context.ensures.members i has))
          (c.fill_wanted-seat.ensures.seen.published i seen)))
          (moved.there i has);
    })
