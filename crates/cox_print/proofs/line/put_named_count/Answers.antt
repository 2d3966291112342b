-- The proof of `put_named_count`.
use Rattle.std.proofs.Common.{codes, decimal, rules}
use Rattle.cox_print.proofs.ThreeTexts.{Puts-first_of_three, Puts-second_of_three, Puts-third_of_three}
use Rattle.cox_print.proofs.line.put_named_count.Goals as goal

pub returns-in_err-put_text : goal.returns-in_err-put_text
returns-in_err-put_text c =
    Puts-first_of_three _ c.args.name.now (codes " ") (decimal c.args.n) _ _ (search rules) c.in_err-put_text.ensures.text

pub returns-in_err-put_text-2 : goal.returns-in_err-put_text-2
returns-in_err-put_text-2 c =
    Puts-second_of_three _ c.args.name.now (codes " ") (decimal c.args.n) _ _ _ c.in_ok-put_text.ensures.text (search rules)
    c.in_err-put_text-2.ensures.text

pub returns : goal.returns
returns c =
    Puts-third_of_three _ c.args.name.now (codes " ") (decimal c.args.n) _ _ _ _ c.in_ok-put_text.ensures.text
    c.in_ok-put_text-2.ensures.text c.put_natural.ensures
