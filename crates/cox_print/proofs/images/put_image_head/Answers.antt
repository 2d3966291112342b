-- The proof of `put_image_head`.
use Rattle.std.proofs.Common.{◌++◌, codes, decimal, rules}
use Rattle.cox_print.specs.AnswerText.{element_text}
use Rattle.cox_print.proofs.ThreeTexts.{Puts-first_of_three, Puts-second_of_three, Puts-third_of_three}
use Rattle.cox_print.proofs.images.put_image_head.Goals as goal

pub returns-in_err-put_natural : goal.returns-in_err-put_natural
returns-in_err-put_natural c =
    let element = codes " " ++ element_text c.args.rank c.args.x.now.items in
    Puts-first_of_three _ (decimal c.args.s) element (codes ":") _ _ (search rules) (rw c.from.ensures at c.in_err-put_natural.ensures)

pub returns-in_err-put_other_element : goal.returns-in_err-put_other_element
returns-in_err-put_other_element c =
    let element = codes " " ++ element_text c.args.rank c.args.x.now.items in
    Puts-second_of_three _ (decimal c.args.s) element (codes ":") _ _ _ (rw c.from.ensures at c.in_ok-put_natural.ensures)
    (search rules) c.in_err-put_other_element.ensures

pub returns : goal.returns
returns c =
    let element = codes " " ++ element_text c.args.rank c.args.x.now.items in
    Puts-third_of_three _ (decimal c.args.s) element (codes ":") _ _ _ _ (rw c.from.ensures at c.in_ok-put_natural.ensures)
    c.in_ok-put_other_element.ensures (search rules)
