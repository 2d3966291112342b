-- The store is allowed.
use Rattle.cox_claims.proofs.Allowed.{publish_owed}
use Rattle.cox_claims.proofs.table.Claims.publish.Goals as goal

pub store-requires : goal.store-requires
store-requires g c = publish_owed c.args.self.now c.args.seat.now c.args.row c.requires.own c.requires.row c.requires.held
