-- A multiple by -m is taken off.
use Rattle.std.proofs.Common.{◌≡◌, pos, ◌-ℤ◌, FitsSigned, w32, w64, rules, ◌∙◌, arith}
use Rattle.std.specs.Prelude.{neg_ℤ}
use Rattle.std.proofs.lemmas.Int.{ints, to_z-of_z}
use Rattle.cox_poly.specs.Polynomial.{coefficient}
use Rattle.cox_klstep.proofs.AddedSums.{minus-plus}
use Rattle.cox_klstep.proofs.sums.take_off.Goals as goal

pub returns-clause-sum : goal.returns-clause-sum
returns-clause-sum c = λ f is k.
    let fits : FitsSigned w32 c.args.correction.now.factor = search rules
    in let value : c.from.result ≡ c.args.correction.now.factor
    = c.from.ensures ∙ to_z-of_z w32 c.args.correction.now.factor fits
    in let wide : FitsSigned w64 c.from.result = search rules
    in let fits_negated : FitsSigned w64 (pos 0 -ℤ c.from.result) = search rules
    in let negated : pos 0 -ℤ c.from.result ≡ neg_ℤ c.args.correction.now.factor = omega (arith, ints, value)
    in let fits_after : FitsSigned w64 (neg_ℤ c.args.correction.now.factor) = rw negated at fits_negated
    in simp (to_z-of_z w64 c.from.result wide, negated, to_z-of_z w64 (neg_ℤ c.args.correction.now.factor) fits_after)
    at (c.add.ensures.sum f is k)
    ∙ minus-plus (coefficient c.args.sums.now) f c.args.correction.now.factor c.args.correction.now.shift k
