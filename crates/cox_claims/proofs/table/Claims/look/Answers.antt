-- The load is allowed.
use Rattle.cox_claims.proofs.Allowed.{look_owed}
use Rattle.cox_claims.proofs.table.Claims.look.Goals as goal

pub load-requires : goal.load-requires
load-requires c = look_owed c.args.self.now c.args.seat.now c.args.row c.requires.own c.requires.row
