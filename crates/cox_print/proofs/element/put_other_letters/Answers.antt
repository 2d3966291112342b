-- The proof of `put_other_letters`.
use Rattle.std.proofs.Common.{◌++◌, decimal, rules, arith}
use Rattle.cox_poly.proofs.Behind.{PutsPrefix-next, Puts-failed}
use Rattle.cox_print.proofs.element.put_other_letters.Goals as goal

pub returns-in_err-put_next_letter : goal.returns-in_err-put_next_letter
returns-in_err-put_next_letter c =
    Puts-failed _ _ _ _ (search rules) (PutsPrefix-next (λ letter. c.args.separator.now ++ decimal letter)
    c.args.letters.now c.loop-letter.letter-index _ 0 _ _ _ (omega arith) (search rules) c.loop-letter.invariant
    (c.in_err-put_next_letter.ensures {u = tt}))
