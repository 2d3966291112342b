-- Only `1` are the digits of 1.
use Rattle.std.proofs.Common.{ℕ, length, ap, arith}
use Rattle.std.proofs.lemmas.Bool.{eqb-true}
use Rattle.cox_polyread.proofs.ReadNumerals.{value_of-one}
use Rattle.cox_polyread.proofs.term_reading.is_one.Goals as goal

pub returns-else-digits-eq1 : goal.returns-else-digits-eq1
returns-else-digits-eq1 c = (
  λ e. absurd (omega (arith, eqb-true (length c.args.digits.now) 1 e)),
  λ e. absurd (omega (arith, ap (length {A = ℕ}) (value_of-one c.args.digits.now c.requires e))),
)
