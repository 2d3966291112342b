-- The proof of `put_letter`.
use Rattle.std.proofs.Common.{◌+◌, ◌/◌, ◌%◌, [], ◌∷◌, arith, rules}
use Rattle.std.proofs.lemmas.Fmt.{decimal_digit}
use Rattle.cox_base.proofs.Numerals.{decimal-two}
use Rattle.cox_poly.proofs.Behind.{Puts-first, Puts-second}
use Rattle.cox_print.proofs.element.put_letter.Goals as goal

pub returns-then-letter-lt10 : goal.returns-then-letter-lt10
returns-then-letter-lt10 c = rw (decimal_digit c.args.letter c.if-letter-lt10.true) c.put_byte.ensures

pub returns-in_err-put_byte : goal.returns-in_err-put_byte
returns-in_err-put_byte c =
    rw (decimal-two c.args.letter (omega arith) c.requires)
    (Puts-first _ ((48 + c.args.letter / 10) ∷ []) ((48 + c.args.letter % 10) ∷ []) _ _ (search rules) c.in_err-put_byte.ensures)

pub returns : goal.returns
returns c =
    rw (decimal-two c.args.letter (omega arith) c.requires)
    (Puts-second _ ((48 + c.args.letter / 10) ∷ []) ((48 + c.args.letter % 10) ∷ []) _ _ _ c.in_ok-put_byte.ensures c.put_byte-3.ensures)
