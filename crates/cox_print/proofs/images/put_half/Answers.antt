-- The proof of `put_half`.
use Rattle.std.proofs.Common.{FitsSigned, w64, codes, rules}
use Rattle.std.proofs.lemmas.Int.{to_z-of_z}
use Rattle.cox_poly.specs.PolynomialText.{factor_text}
use Rattle.cox_poly.proofs.Behind.{Puts-first, Puts-second}
use Rattle.cox_print.proofs.images.put_half.Goals as goal

pub returns-in_err-put_factor : goal.returns-in_err-put_factor
returns-in_err-put_factor c =
    let fits : FitsSigned w64 c.args.m = c.ranges.m in
    Puts-first _ (factor_text 1 c.args.m) (codes "v") _ _ (search rules) (simp to_z-of_z at c.in_err-put_factor.ensures.text)

pub returns : goal.returns
returns c =
    let fits : FitsSigned w64 c.args.m = c.ranges.m in
    Puts-second _ (factor_text 1 c.args.m) (codes "v") _ _ _ (simp to_z-of_z at c.in_ok-put_factor.ensures.text) (search rules)
