-- A symmetry keeps polynomials and mu, and so does its inverse, which leads back.
use Rattle.cox_rows.proofs.TurnedRows.{beyond_turned}
use Rattle.cox_rows.proofs.laws.beyond_turned.Goals as goal

pub returns : goal.returns
returns c = beyond_turned
