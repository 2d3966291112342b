-- The proof of `put_refusal`.
use Rattle.std.proofs.Common.{codes, rules}
use Rattle.std.specs.Fmt.{decimal}
use Rattle.cox_poly.proofs.Behind.{Puts-first}
use Rattle.cox_print.proofs.line.put_refusal.Goals as goal

pub returns-in_err-put_text : goal.returns-in_err-put_text
returns-in_err-put_text c = Puts-first _ (codes "error ") (decimal c.args.n) _ _ (search rules) c.in_err-put_text.ensures.text
