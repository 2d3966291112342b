-- The proof of `put_next_letter`.
use Rattle.std.proofs.Common.{decimal, rules}
use Rattle.cox_poly.proofs.Behind.{Puts-first, Puts-second}
use Rattle.cox_print.proofs.element.put_next_letter.Goals as goal

pub returns-in_err-put_text : goal.returns-in_err-put_text
returns-in_err-put_text c =
    Puts-first _ c.args.separator.now (decimal c.args.letter) _ _ (search rules) c.in_err-put_text.ensures.text

pub returns : goal.returns
returns c = Puts-second _ c.args.separator.now (decimal c.args.letter) _ _ _ c.in_ok-put_text.ensures.text c.put_letter-2.ensures
