-- The proof of `read_decimal`.
use Rattle.std.proofs.Common.{◌<◌, arith, length, sym}
use Rattle.std.proofs.lemmas.Bool.{eqb-true, eqb-false}
use Rattle.cox_cert.proofs.Decimals.{decimal-led, decimal-read}
use Rattle.cox_cert.proofs.parts.read_decimal.Goals as goal
use Rattle.cox_cert.proofs.parts.read_decimal.Goals.{then-is_empty-via-then-is_empty, then-is_empty-via-else-is_empty+then-text-eq48}

pub returns-then-is_empty : goal.returns-then-is_empty
returns-then-is_empty c = λ n some small same.
    let led = decimal-led n c.args.text.now some small same in
    elim c.then-is_empty.branch [
      | then-is_empty-via-then-is_empty w ↦
          omega (arith, led.0, eqb-true (length c.args.text.now) 0 (sym (w.if-is_empty.ensures {u = tt})))
      | then-is_empty-via-else-is_empty+then-text-eq48 w ↦ omega (arith, led.1)
    ]

pub returns : goal.returns
returns c =
    let other = c.if-is_empty.ensures {u = tt} in
    let some : 0 < length c.args.text.now = omega (arith, eqb-false (length c.args.text.now) 0 (sym other)) in
    decimal-read c.args.text.now c.read_number.result some c.if-text-eq48.false c.read_number.ensures.value c.read_number.ensures.small
