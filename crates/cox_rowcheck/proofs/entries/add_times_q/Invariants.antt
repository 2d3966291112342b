-- The coefficients so far are added.
use Rattle.std.proofs.Common.{pos}
use Rattle.cox_poly.proofs.AddedMultiples.{Added}
use Rattle.cox_rowcheck.proofs.entries.add_times_q.Given as goal

abbrev pub invariant-loop-k : goal.invariant-loop-k
invariant-loop-k l = Added l.initial.entry l.entry l.h (pos 1) 1 l.k
