-- The proof of `put_descent`.
use Rattle.std.proofs.Common.{◌++◌, codes, rules}
use Rattle.cox_print.specs.AnswerText.{set_text}
use Rattle.cox_poly.proofs.Behind.{append-second, PutsPrefix-second, Puts-first, Puts-second}
use Rattle.cox_print.proofs.line.put_descent.Goals as goal

pub returns-in_err-put_text : goal.returns-in_err-put_text
returns-in_err-put_text c =
    let left = set_text c.args.rank c.args.left.now.items in
    let right = set_text c.args.rank c.args.right.now.items in
    Puts-first _ (codes "L ") (left ++ codes " R " ++ right) _ _ (search rules) c.in_err-put_text.ensures.text

pub returns-in_err-put_text-2 : goal.returns-in_err-put_text-2
returns-in_err-put_text-2 c =
    let left = set_text c.args.rank c.args.left.now.items in
    let right = set_text c.args.rank c.args.right.now.items in
    let first = append-second (codes "L ") left _ _ _ c.in_ok-put_text.ensures.text c.in_ok-put_set.ensures in
    Puts-first _ (codes "L " ++ left ++ codes " R ") right _ _ (search rules)
    (PutsPrefix-second (codes "L " ++ left) (codes " R ") _ _ _ first c.in_err-put_text-2.ensures.text)

pub returns : goal.returns
returns c =
    let left = set_text c.args.rank c.args.left.now.items in
    let right = set_text c.args.rank c.args.right.now.items in
    let first = append-second (codes "L ") left _ _ _ c.in_ok-put_text.ensures.text c.in_ok-put_set.ensures in
    let second = append-second (codes "L " ++ left) (codes " R ") _ _ _ first c.in_ok-put_text-2.ensures.text in
    Puts-second _ (codes "L " ++ left ++ codes " R ") right _ _ _ second c.put_set-2.ensures
