-- The states fit what the seat knows.
use Rattle.std.proofs.Common.{subst, sym}
use Rattle.cox_claims.specs.Tables.{Closes}
use Rattle.cox_claims.proofs.Ends.{closes}
use Rattle.cox_claims.proofs.table.Claims.close.Goals as goal

pub returns-clause-states : goal.returns-clause-states
returns-clause-states c =
    let claims = c.args.self in
    let view = c.args.seat.seat.me.0 in
    let key = claims.keyed in
    subst (Closes view c.args.seat.seat.id claims.rows) (sym c.read_states-states.ensures)
    (closes claims.rows _ view _ _ (rw key at c.close_with-closed.ensures.values.2))
