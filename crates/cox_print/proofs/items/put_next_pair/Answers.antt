-- The proof of `put_next_pair`.
use Rattle.std.proofs.Common.{◌∷◌, codes, rules}
use Rattle.cox_poly.specs.PolynomialText.{polynomial_text}
use Rattle.cox_print.specs.AnswerText.{element_text}
use Rattle.cox_print.proofs.ThreeTexts.{Puts-first_of_three, Puts-second_of_three, Puts-third_of_three}
use Rattle.cox_print.proofs.items.put_next_pair.Goals as goal

pub returns-in_err-put_next_element : goal.returns-in_err-put_next_element
returns-in_err-put_next_element c =
    let element = element_text c.args.rank c.args.x.now.items in
    Puts-first_of_three _ (10 ∷ element) (codes ":") (polynomial_text c.args.p.now) _ _ (search rules) c.in_err-put_next_element.ensures

pub returns-in_err-put_text : goal.returns-in_err-put_text
returns-in_err-put_text c =
    let element = element_text c.args.rank c.args.x.now.items in
    Puts-second_of_three _ (10 ∷ element) (codes ":") (polynomial_text c.args.p.now) _ _ _ c.in_ok-put_next_element.ensures
    (search rules) c.in_err-put_text.ensures.text

pub returns : goal.returns
returns c =
    let element = element_text c.args.rank c.args.x.now.items in
    Puts-third_of_three _ (10 ∷ element) (codes ":") (polynomial_text c.args.p.now) _ _ _ _ c.in_ok-put_next_element.ensures
    c.in_ok-put_text.ensures.text c.put_text-2.ensures.text
