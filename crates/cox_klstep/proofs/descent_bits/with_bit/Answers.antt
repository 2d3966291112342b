-- The bit of the place, and the others.
use Rattle.std.proofs.Common.{arith, w64}
use Rattle.std.proofs.lemmas.Nat.Bits.{bit_at_set_same, bit_at_set_other, bit_at_clear_same, bit_at_clear_other}
use Rattle.cox_klstep.proofs.descent_bits.with_bit.Goals as goal

pub returns-then-is_set-clause-at : goal.returns-then-is_set-clause-at
returns-then-is_set-clause-at c = (λ _. c.if-is_set.true, λ _. bit_at_set_same w64 c.args.word c.args.place c.requires)

pub returns-then-is_set-clause-others : goal.returns-then-is_set-clause-others
returns-then-is_set-clause-others c = λ j l apart. bit_at_set_other w64 c.args.word c.args.place c.requires j apart

pub returns-else-is_set-clause-at : goal.returns-else-is_set-clause-at
returns-else-is_set-clause-at c =
    let clear = bit_at_clear_same w64 c.args.word c.args.place c.requires
    in (λ one. absurd (omega (arith, one, clear)), λ yes. let no = c.if-is_set.false in absurd (cc))

pub returns-else-is_set-clause-others : goal.returns-else-is_set-clause-others
returns-else-is_set-clause-others c = λ j l apart. bit_at_clear_other w64 c.args.word c.args.place c.requires j l apart
