-- The rows that come back are those of the members.
use Rattle.std.proofs.Common.{sym, ap}
use Rattle.cox_rows.specs.Holding.{IsHeldRow}
use Rattle.cox_row_store.proofs.TakenRows.{taken-each}
use Rattle.row_tests.proofs.given_up.makes_a_row_that_was_given_up.Goals as goal

pub adopt-requires : goal.adopt-requires
adopt-requires g c =
    let elements = sym (ap (λ r. r.elements) c.in_ok-rows.ensures) in
    let limit = sym (ap (λ r. r.limit) c.in_ok-rows.ensures) in
    taken-each _ _ (IsHeldRow c.in_ok-rows.rows.elements c.in_ok-rows.rows.limit)
    (λ i row l h. rw (← elements, ← limit) (record { member = l; is = h.is; within = h.within })) _ c.in_ok-made.made.items
    c.in_ok-made.ensures.rows.1
