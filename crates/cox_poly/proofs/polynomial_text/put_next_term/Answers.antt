-- The sign, and then the term behind it.
use Rattle.std.proofs.Common.{FitsSigned, w64, rules}
use Rattle.std.proofs.lemmas.Int.{to_z-of_z}
use Rattle.cox_poly.specs.PolynomialText.{plus_text, term_text}
use Rattle.cox_poly.proofs.Behind.{Puts-first, Puts-second}
use Rattle.cox_poly.proofs.polynomial_text.put_next_term.Goals as goal

pub returns-in_err-put_plus-clause-text : goal.returns-in_err-put_plus-clause-text
returns-in_err-put_plus-clause-text c =
    let fits : FitsSigned w64 c.args.c = c.ranges.c in
    Puts-first _ (plus_text c.args.c) (term_text (c.args.k, c.args.c)) _ _ (search rules) (simp to_z-of_z at c.in_err-put_plus.ensures.text)

pub returns-clause-text : goal.returns-clause-text
returns-clause-text c =
    let fits : FitsSigned w64 c.args.c = c.ranges.c in
    let plus = simp to_z-of_z at c.in_ok-put_plus.ensures.text in
    Puts-second _ (plus_text c.args.c) (term_text (c.args.k, c.args.c)) _ _ _ plus (simp to_z-of_z at c.put_term.ensures.text)
