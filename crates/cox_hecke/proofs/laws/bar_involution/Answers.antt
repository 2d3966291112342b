-- Each clause is a lemma on bar.
use Rattle.cox_hecke.proofs.BarTwice.{bar-combination, bar-twice}
use Rattle.cox_hecke.proofs.laws.bar_involution.Goals as goal

pub returns-clause-combination : goal.returns-clause-combination
returns-clause-combination c = bar-combination

pub returns-clause-twice : goal.returns-clause-twice
returns-clause-twice c = bar-twice
