-- The letter, and then the degree behind it.
use Rattle.std.proofs.Common.{codes, arith, rules}
use Rattle.std.proofs.lemmas.Bool.Decides.{nat_tests}
use Rattle.cox_poly.specs.Numerals.{number_text}
use Rattle.cox_poly.proofs.Behind.{Puts-first}
use Rattle.cox_poly.proofs.polynomial_text.put_power.Goals as goal

pub returns-in_err-put_text-clause-text : goal.returns-in_err-put_text-clause-text
returns-in_err-put_text-clause-text c =
    let put = c.in_err-put_text.ensures.text in
    let e = Puts-first c.from_residual.result (codes "q^") (number_text c.args.k) c.args.out.now.items c.put_text-else-k-eq1.new.out.items
    (search rules) put in
    grind (arith, nat_tests, e)
