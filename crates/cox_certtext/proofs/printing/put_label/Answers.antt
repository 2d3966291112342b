-- The proof of `put_label`.
use Rattle.std.proofs.Common.{codes, decimal, rules}
use Rattle.cox_poly.proofs.Behind.{Puts-first}
use Rattle.cox_certtext.proofs.printing.put_label.Goals as goal

pub returns-in_err-put_text : goal.returns-in_err-put_text
returns-in_err-put_text c = Puts-first _ (codes " ") (decimal c.args.label) _ _ (search rules) c.in_err-put_text.ensures.text
