-- Each clause is a lemma on Need(w).
use Rattle.cox_hecke.proofs.NeededElements.{needed-same, needed-trans, needed-self, needed-shorter, needed-corrected}
use Rattle.cox_hecke.proofs.laws.needs.Goals as goal

pub returns-clause-itself : goal.returns-clause-itself
returns-clause-itself c = needed-self

pub returns-clause-shorter : goal.returns-clause-shorter
returns-clause-shorter c = needed-shorter

pub returns-clause-corrected : goal.returns-clause-corrected
returns-clause-corrected c = needed-corrected

pub returns-clause-elements : goal.returns-clause-elements
returns-clause-elements c = needed-same

pub returns-clause-transitive : goal.returns-clause-transitive
returns-clause-transitive c = needed-trans
