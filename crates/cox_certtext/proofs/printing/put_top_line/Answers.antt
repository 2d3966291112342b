-- The proof of `put_top_line`.
use Rattle.std.proofs.Common.{codes, rules}
use Rattle.cox_base.specs.WordText.{word_text}
use Rattle.cox_poly.proofs.Behind.{Puts-first, Puts-second}
use Rattle.cox_certtext.proofs.printing.put_top_line.Goals as goal

pub returns-in_err-put_text : goal.returns-in_err-put_text
returns-in_err-put_text c =
    Puts-first _ (codes "\nelement ") (word_text c.args.rank c.args.top.now.items) _ _ (search rules) c.in_err-put_text.ensures.text

pub returns : goal.returns
returns c =
    Puts-second _ (codes "\nelement ") (word_text c.args.rank c.args.top.now.items) _ _ _ c.in_ok-put_text.ensures.text
    c.put_element.ensures
