-- A size is left out where it is 1 before a power.
use Rattle.std.proofs.Common.{sym, ◌∙◌, arith}
use Rattle.std.proofs.lemmas.Bool.{iff_false, true≢false}
use Rattle.std.proofs.lemmas.Bool.Decides.{nat_tests}
use Rattle.cox_polyread.proofs.ReadTexts.{IsSize-digits, IsNoSize-digits, IsNoSize-empty}
use Rattle.cox_polyread.proofs.term_reading.read_size.Goals as goal
use Rattle.cox_polyread.proofs.term_reading.read_size.Goals.{then-not-is_numeral-via-then-not-is_numeral}
use Rattle.cox_polyread.proofs.term_reading.read_size.Goals.{then-not-is_numeral-via-else-not-is_numeral+then-is_one}
use Rattle.cox_polyread.proofs.term_reading.read_size.Goals.{then-has_power-2, else-has_power-2}

pub returns-else-has_power : goal.returns-else-has_power
returns-else-has_power c = IsNoSize-empty c.args.has_power c.args.text.now c.if-has_power.false (grind (arith, nat_tests))

pub returns-then-not-is_numeral : goal.returns-then-not-is_numeral
returns-then-not-is_numeral c = IsNoSize-digits c.args.has_power c.args.text.now (grind (arith, nat_tests))
    (λ numeral other. elim c.then-not-is_numeral.branch [
      | then-not-is_numeral-via-then-not-is_numeral w ↦ true≢false (sym numeral ∙ sym c.is_numeral.ensures ∙ w.if-not-is_numeral.true)
      | then-not-is_numeral-via-else-not-is_numeral+then-is_one w ↦ elim w.if-has_power-2.branch [
        | then-has_power-2 v ↦ other v.if-has_power-2.true (v.is_one.ensures.0 (sym v.value-is ∙ w.if-is_one.true))
        | else-has_power-2 v ↦ true≢false (sym w.if-is_one.true ∙ v.value-is ∙ v.if-has_power-2.false)
      ]
    ])

pub returns : goal.returns
returns c =
    IsSize-digits c.args.has_power c.args.text.now (sym c.is_numeral.ensures ∙ c.if-not-is_numeral.false)
    (λ before one. elim c.if-has_power-2.branch [
      | then-has_power-2 v ↦ iff_false v.is_one.ensures (sym v.value-is ∙ c.if-is_one.false) one
      | else-has_power-2 v ↦ true≢false (sym before ∙ v.if-has_power-2.false)
    ])
