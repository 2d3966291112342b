-- A power above q has a degree above 1.
use Rattle.std.proofs.Common.{◌-◌, length, drop, take, sym, ◌∙◌, arith}
use Rattle.std.proofs.lemmas.Bool.{iff_false, true≢false}
use Rattle.std.proofs.lemmas.Bool.Decides.{nat_tests}
use Rattle.std.proofs.lemmas.List.{take_rest}
use Rattle.cox_polyread.proofs.ReadTexts.{IsPower-long, IsNoPower-long}
use Rattle.cox_polyread.proofs.term_reading.read_power.Goals as goal
use Rattle.cox_polyread.proofs.term_reading.read_power.Goals.{then-power-ne113-via-then-power-ne113}
use Rattle.cox_polyread.proofs.term_reading.read_power.Goals.{then-power-ne113-via-else-power-ne113+then-power-ne94}
use Rattle.cox_polyread.proofs.term_reading.read_power.Goals.{then-not-is_numeral-via-then-not-is_numeral}
use Rattle.cox_polyread.proofs.term_reading.read_power.Goals.{then-not-is_numeral-via-else-not-is_numeral+then-is_one}

pub returns-then-power-ne113 : goal.returns-then-power-ne113
returns-then-power-ne113 c =
    IsNoPower-long c.args.power.now (take (length c.args.power.now - 2) (drop 2 c.args.power.now)) (take_rest c.args.power.now 2)
    (grind (arith, nat_tests)) (λ first second numeral other. elim c.then-power-ne113.branch [
      | then-power-ne113-via-then-power-ne113 w ↦ omega arith
      | then-power-ne113-via-else-power-ne113+then-power-ne94 w ↦ omega arith
    ])

pub returns-then-not-is_numeral : goal.returns-then-not-is_numeral
returns-then-not-is_numeral c =
    IsNoPower-long c.args.power.now (take (length c.args.power.now - 2) (drop 2 c.args.power.now)) (take_rest c.args.power.now 2)
    (grind (arith, nat_tests))
    (λ first second numeral other. elim c.then-not-is_numeral.branch [
      | then-not-is_numeral-via-then-not-is_numeral w ↦ true≢false (sym numeral ∙ sym c.is_numeral.ensures ∙ w.if-not-is_numeral.true)
      | then-not-is_numeral-via-else-not-is_numeral+then-is_one w ↦ other (w.is_one.ensures.0 w.if-is_one.true)
    ])

pub returns : goal.returns
returns c =
    IsPower-long c.args.power.now (take (length c.args.power.now - 2) (drop 2 c.args.power.now)) (take_rest c.args.power.now 2)
    (grind (arith, nat_tests)) c.if-power-ne113.false c.if-power-ne94.false (sym c.is_numeral.ensures ∙ c.if-not-is_numeral.false)
    (iff_false c.is_one.ensures c.if-is_one.false)
