-- The proof of `two_digits`.
use Rattle.std.proofs.Common.{arith, inl, inr}
use Rattle.cox_base.proofs.Numerals.{two_numeral, no_two_digits}
use Rattle.cox_base.proofs.reading.two_digits.Goals as goal

pub returns-in_default : goal.returns-in_default
returns-in_default c = λ n small. no_two_digits c.args.tens c.args.ones n (inl (c.in_default.ensures {u = tt})) small

pub returns-in_default-digit : goal.returns-in_default-digit
returns-in_default-digit c = λ n small. no_two_digits c.args.tens c.args.ones n (inr (inl (c.in_default-digit.ensures {u = tt}))) small

pub returns-then-high-eq0 : goal.returns-then-high-eq0
returns-then-high-eq0 c =
    let zero = (c.in-Some.ensures {u = tt}).1 in
    λ n small. no_two_digits c.args.tens c.args.ones n (inr (inr (omega (arith, zero)))) small

pub returns : goal.returns
returns c =
    let high = c.in-Some.ensures {u = tt} in
    let low = c.in-Some-digit.ensures {u = tt} in (
      omega (arith, high.0, low.0),
      two_numeral c.args.tens c.args.ones c.in-Some.high c.in-Some-digit.low (omega arith) high.0 low.0 high.1 low.1,
    )
