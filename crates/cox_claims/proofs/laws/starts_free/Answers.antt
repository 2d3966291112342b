-- A table with the seat of the start is the table at the start.
use Rattle.cox_claims.proofs.ViewLaws.{starts_free}
use Rattle.cox_claims.proofs.laws.starts_free.Goals as goal

pub returns : goal.returns
returns c = starts_free
