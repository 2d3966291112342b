-- The least bit of the one set that the other does not have.
use Rattle.std.proofs.Common.{◌-◌, bit_and, refl, arith}
use Rattle.std.proofs.lemmas.Nat.{and_le_l}
use Rattle.cox_row.proofs.LetterBits.{zero-subset, lowest-missing}
use Rattle.cox_row.proofs.raised.missing.Goals as goal

pub returns-then-rest-eq0-clause-none : goal.returns-then-rest-eq0-clause-none
returns-then-rest-eq0-clause-none c =
    zero-subset c.args.wanted c.args.present (bit_and c.args.wanted (65535 - c.args.present)) (omega arith) (omega arith) refl
    c.if-rest-eq0.true

pub returns-else-rest-eq0-clause-some : goal.returns-else-rest-eq0-clause-some
returns-else-rest-eq0-clause-some c =
    lowest-missing c.args.wanted c.args.present (bit_and c.args.wanted (65535 - c.args.present)) (omega arith) (omega arith) refl
    (omega (arith, and_le_l c.args.wanted (65535 - c.args.present))) c.if-rest-eq0.false
