-- The proof of `put_next_number`.
use Rattle.std.proofs.Common.{codes, rules}
use Rattle.std.specs.Fmt.{signed_decimal}
use Rattle.cox_poly.proofs.Behind.{Puts-first}
use Rattle.cox_print.proofs.putting.put_next_number.Goals as goal

pub returns-in_err-put_text : goal.returns-in_err-put_text
returns-in_err-put_text c = Puts-first _ (codes " ") (signed_decimal c.args.n) _ _ (search rules) c.in_err-put_text.ensures.text
