-- Each clause is a lemma on bar.
use Rattle.cox_hecke.proofs.BarOperator.{row-combination, row-fixed, fixed-row}
use Rattle.cox_hecke.proofs.laws.bar_invariance.Goals as goal

pub returns-clause-combination : goal.returns-clause-combination
returns-clause-combination c = row-combination

pub returns-clause-fixed : goal.returns-clause-fixed
returns-clause-fixed c = row-fixed

pub returns-clause-only : goal.returns-clause-only
returns-clause-only c = fixed-row
