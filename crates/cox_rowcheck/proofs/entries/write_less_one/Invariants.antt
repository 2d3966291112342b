-- The coefficients so far are written, and zeros stand behind them.
use Rattle.cox_rowcheck.proofs.StoredEntries.{IsLessOne}
use Rattle.cox_rowcheck.proofs.entries.write_less_one.Given as goal

abbrev pub invariant-loop-k : goal.invariant-loop-k
invariant-loop-k l = IsLessOne l.f l.entry l.k l.before
