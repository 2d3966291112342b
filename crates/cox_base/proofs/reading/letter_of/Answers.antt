-- The proof of `letter_of`.
use Rattle.std.proofs.Common.{arith, ap, length, sym, inl, inr}
use Rattle.cox_base.specs.Matrix.{IsLetter}
use Rattle.cox_base.proofs.Numerals.{length-decimal-small}
use Rattle.cox_base.proofs.TextPieces.{letter_of-some, letter_of-none, letter_of-outside}
use Rattle.cox_base.proofs.reading.letter_of.Goals as goal
use Rattle.cox_base.proofs.reading.letter_of.Goals.{then-value-eq0-via-then-value-eq0, then-value-eq0-via-else-value-eq0+then-from-rank}

pub returns-in_default-clause-letter : goal.returns-in_default-clause-letter
returns-in_default-clause-letter c =
    sym (letter_of-none c.args.rank c.args.piece.now
    (λ s letter is. c.in_default.ensures {u = tt} s (omega (arith, letter.to_rank, c.requires)) is))

pub returns-then-value-eq0-clause-letter : goal.returns-then-value-eq0-clause-letter
returns-then-value-eq0-clause-letter c =
    let numeral = c.in-Some.ensures {u = tt} in
    sym (letter_of-outside c.args.rank c.in-Some.value c.args.piece.now c.requires numeral.0 numeral.1
    (elim c.then-value-eq0.branch [
      | then-value-eq0-via-then-value-eq0 w ↦ inl w.if-value-eq0.true
      | then-value-eq0-via-else-value-eq0+then-from-rank w ↦ inr (omega arith)
    ]))

pub returns-clause-letter : goal.returns-clause-letter
returns-clause-letter c =
    let numeral = c.in-Some.ensures {u = tt} in
    let letter : IsLetter c.args.rank c.in-Some.value = record { from_one = omega arith; to_rank = omega arith } in
    sym (letter_of-some c.args.rank c.in-Some.value c.args.piece.now c.requires letter numeral.1)

pub returns-clause-short : goal.returns-clause-short
returns-clause-short c =
    let numeral = c.in-Some.ensures {u = tt} in
    omega (arith, ap length numeral.1, (length-decimal-small c.in-Some.value numeral.0).1)
