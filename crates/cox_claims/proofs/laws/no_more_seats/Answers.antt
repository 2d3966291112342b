-- A table has no seat beside those that the views tell of.
use Rattle.cox_claims.proofs.ViewLaws.{no_more_seats}
use Rattle.cox_claims.proofs.laws.no_more_seats.Goals as goal

pub returns : goal.returns
returns c = no_more_seats
