-- The longer number is greater, and of two as long the first different digit decides.
use Rattle.std.proofs.Common.{arith}
use Rattle.cox_polyread.proofs.ReadNumerals.{less-longer, less-digit}
use Rattle.cox_polyread.proofs.term_reading.is_below.Goals as goal

pub returns-then-a-b : goal.returns-then-a-b
returns-then-a-b c = less-longer c.args.a.now c.args.b.now c.requires.a c.requires.b (λ e. omega arith)

pub returns-then-x-b : goal.returns-then-x-b
returns-then-x-b c =
    less-digit c.args.a.now c.args.b.now c.loop-i.i c.requires.a c.requires.b (omega arith) (omega arith) c.loop-i.invariant
    (λ e. omega arith)
