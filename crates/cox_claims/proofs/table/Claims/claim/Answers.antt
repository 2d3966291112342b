-- The compare-exchange is allowed.
use Rattle.cox_claims.proofs.Allowed.{claim_owed}
use Rattle.cox_claims.proofs.table.Claims.claim.Goals as goal

pub compare_exchange-requires : goal.compare_exchange-requires
compare_exchange-requires c = claim_owed c.args.self.now c.args.seat.now c.args.row c.requires.own c.requires.row
