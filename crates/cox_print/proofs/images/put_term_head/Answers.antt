-- The proof of `put_term_head`.
use Rattle.std.proofs.Common.{◌++◌, codes, rules}
use Rattle.cox_print.specs.AnswerText.{element_text}
use Rattle.cox_poly.proofs.Behind.{Puts-first, Puts-second}
use Rattle.cox_print.proofs.images.put_term_head.Goals as goal

pub returns-in_err-put_other_element : goal.returns-in_err-put_other_element
returns-in_err-put_other_element c =
    Puts-first _ (codes " " ++ element_text c.args.rank c.args.y.now.items) (codes "=") _ _ (search rules)
    c.in_err-put_other_element.ensures

pub returns : goal.returns
returns c =
    Puts-second _ (codes " " ++ element_text c.args.rank c.args.y.now.items) (codes "=") _ _ _ c.in_ok-put_other_element.ensures
    (search rules)
