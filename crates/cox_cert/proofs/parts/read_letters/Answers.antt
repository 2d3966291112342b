-- The proof of `read_letters`.
use Rattle.std.proofs.Common.{ℕ, ◌<◌, arith, ap, sym, length}
use Rattle.std.proofs.lemmas.Bool.{eqb-true, eqb-false}
use Rattle.cox_cert.proofs.WordLines.{word_text-some, letters-read, letters-none}
use Rattle.cox_cert.proofs.parts.read_letters.Goals as goal

pub returns-then-is_empty : goal.returns-then-is_empty
returns-then-is_empty c = λ w is same.
    let some = word_text-some c.args.rank w c.requires.rank is.letters in
    let none = c.if-is_empty.ensures {u = tt} in
    omega (arith, ap (length {A = ℕ}) same, eqb-true (length c.args.text.now) 0 (sym none))

pub returns-in-Ok : goal.returns-in-Ok
returns-in-Ok c =
    let other = c.if-is_empty.ensures {u = tt} in
    let some : 0 < length c.args.text.now = omega (arith, eqb-false (length c.args.text.now) 0 (sym other)) in
    letters-read c.args.rank c.args.text.now c.in-Ok.word some (c.in-Ok.ensures {u = tt})

pub returns-in-Err : goal.returns-in-Err
returns-in-Err c = letters-none c.args.rank c.args.text.now _ c.requires.rank (c.in-Err.ensures {u = tt})
