-- The sums at the powers so far have what was added.
use Rattle.cox_poly.proofs.AddedMultiples.{Added}
use Rattle.cox_poly.proofs.accumulator.add_into.Given as goal

abbrev pub invariant-loop-i : goal.invariant-loop-i
invariant-loop-i l = Added l.initial.sums l.sums l.coefficients l.factor l.shift l.i
