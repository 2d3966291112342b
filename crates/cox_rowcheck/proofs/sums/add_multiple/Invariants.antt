-- The sums at the powers so far have what was added.
use Rattle.cox_poly.proofs.AddedMultiples.{Added}
use Rattle.cox_rowcheck.proofs.sums.add_multiple.Given as goal

abbrev pub invariant-loop-k : goal.invariant-loop-k
invariant-loop-k l = Added l.initial.sum l.sum l.r l.factor l.shift l.k
