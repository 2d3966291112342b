-- Each clause is a lemma on the sums of R(x,y) h(y).
use Rattle.cox_hecke.proofs.OperatorLaws.{step-sum}
use Rattle.cox_hecke.proofs.BarSums.{bar-descent, bar-ascent}
use Rattle.cox_hecke.proofs.laws.bar_sums.Goals as goal

pub returns-clause-product : goal.returns-clause-product
returns-clause-product c = step-sum

pub returns-clause-shorter : goal.returns-clause-shorter
returns-clause-shorter c = λ A g s h words l r closed. bar-descent A g s l h r words closed

pub returns-clause-longer : goal.returns-clause-longer
returns-clause-longer c = λ A g s h words l r closed. bar-ascent A g s l h r words closed
