-- The proof of `put_next_element`.
use Rattle.std.proofs.Common.{[], ◌∷◌, rules}
use Rattle.cox_print.specs.AnswerText.{element_text}
use Rattle.cox_poly.proofs.Behind.{Puts-first}
use Rattle.cox_print.proofs.element.put_next_element.Goals as goal

pub returns-in_err-put_end : goal.returns-in_err-put_end
returns-in_err-put_end c =
    Puts-first _ (10 ∷ []) (element_text c.args.rank c.args.w.now.items) _ _ (search rules) c.in_err-put_end.ensures
