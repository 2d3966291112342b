-- The proof of `small_numeral`.
use Rattle.std.proofs.Common.{arith, ap, length}
use Rattle.cox_base.proofs.Numerals.{length-decimal-small}
use Rattle.cox_base.proofs.reading.small_numeral.Goals as goal

pub returns-in_default : goal.returns-in_default
returns-in_default c = λ n small is. omega (arith, ap length is, (length-decimal-small n small).0, (length-decimal-small n small).1)

pub returns-in_default-2 : goal.returns-in_default-2
returns-in_default-2 c = λ n small is. omega (arith, ap length is, (length-decimal-small n small).0, (length-decimal-small n small).1)
