-- The factor, and then the power behind it.
use Rattle.std.proofs.Common.{FitsSigned, w64, rules}
use Rattle.std.proofs.lemmas.Int.{to_z-of_z}
use Rattle.cox_poly.specs.PolynomialText.{factor_text, power_text}
use Rattle.cox_poly.proofs.Behind.{Puts-first, Puts-second}
use Rattle.cox_poly.proofs.polynomial_text.put_term.Goals as goal

pub returns-in_err-put_factor-clause-text : goal.returns-in_err-put_factor-clause-text
returns-in_err-put_factor-clause-text c =
    let fits : FitsSigned w64 c.args.c = c.ranges.c in
    Puts-first _ (factor_text c.args.k c.args.c) (power_text c.args.k) _ _ (search rules)
    (simp to_z-of_z at c.in_err-put_factor.ensures.text)

pub returns-clause-text : goal.returns-clause-text
returns-clause-text c =
    let fits : FitsSigned w64 c.args.c = c.ranges.c in
    Puts-second _ (factor_text c.args.k c.args.c) (power_text c.args.k) _ _ _
    (simp to_z-of_z at c.in_ok-put_factor.ensures.text) c.put_power.ensures.text
