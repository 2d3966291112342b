-- The proof of `put_other_element`.
use Rattle.std.proofs.Common.{codes, rules}
use Rattle.cox_print.specs.AnswerText.{element_text}
use Rattle.cox_poly.proofs.Behind.{Puts-first}
use Rattle.cox_print.proofs.items.put_other_element.Goals as goal

pub returns-in_err-put_text : goal.returns-in_err-put_text
returns-in_err-put_text c =
    Puts-first _ (codes " ") (element_text c.args.rank c.args.x.now.items) _ _ (search rules) c.in_err-put_text.ensures.text
