-- The sign is that of the parity.
use Rattle.std.proofs.Common.{◌≡◌, pos, ◌-ℤ◌, FitsSigned, w64, rules, arith}
use Rattle.std.specs.Prelude.{neg_ℤ}
use Rattle.std.proofs.lemmas.Int.{ints, to_z-of_z}
use Rattle.cox_inverse.proofs.SignedProducts.{factor-even, factor-odd}
use Rattle.cox_inverse.proofs.sums.taken_off.Goals as goal

pub returns-then-d-eq0-clause-sign : goal.returns-then-d-eq0-clause-sign
returns-then-d-eq0-clause-sign c = λ f k.
    let negated : pos 0 -ℤ c.args.c ≡ neg_ℤ c.args.c = omega (arith, ints)
    in let wide : FitsSigned w64 (pos 0 -ℤ c.args.c) = search rules
    in let fits : FitsSigned w64 (neg_ℤ c.args.c) = rw negated at wide
    in rw (to_z-of_z w64 c.args.c c.ranges.c, negated, to_z-of_z w64 (neg_ℤ c.args.c) fits)
    (factor-even c.args.c c.args.d c.if-d-eq0.true f k)

pub returns-else-d-eq0-clause-sign : goal.returns-else-d-eq0-clause-sign
returns-else-d-eq0-clause-sign c = λ f k.
    rw (to_z-of_z w64 c.args.c c.ranges.c) (factor-odd c.args.c c.args.d c.if-d-eq0.false f k)
