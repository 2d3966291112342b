-- The proof of `put_edge`.
use Rattle.std.proofs.Common.{◌++◌, codes, rules}
use Rattle.std.specs.Fmt.{signed_decimal}
use Rattle.cox_print.specs.AnswerText.{element_text}
use Rattle.cox_print.proofs.ThreeTexts.{Puts-first_of_three, Puts-second_of_three, Puts-third_of_three}
use Rattle.cox_print.proofs.items.put_edge.Goals as goal

pub returns-in_err-put_other_element : goal.returns-in_err-put_other_element
returns-in_err-put_other_element c =
    let element = codes " " ++ element_text c.args.rank c.args.y.now.items in
    Puts-first_of_three _ element (codes ":") (signed_decimal c.args.value) _ _ (search rules) c.in_err-put_other_element.ensures

pub returns-in_err-put_text : goal.returns-in_err-put_text
returns-in_err-put_text c =
    let element = codes " " ++ element_text c.args.rank c.args.y.now.items in
    Puts-second_of_three _ element (codes ":") (signed_decimal c.args.value) _ _ _ c.in_ok-put_other_element.ensures
    (search rules) c.in_err-put_text.ensures.text

pub returns : goal.returns
returns c =
    let element = codes " " ++ element_text c.args.rank c.args.y.now.items in
    Puts-third_of_three _ element (codes ":") (signed_decimal c.args.value) _ _ _ _ c.in_ok-put_other_element.ensures
    c.in_ok-put_text.ensures.text (search rules)
