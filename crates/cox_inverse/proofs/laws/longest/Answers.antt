-- Each clause is a lemma on lengths, or on Bruhat order.
use Rattle.cox_inverse.proofs.LongestWord.{longest-length, longest-most, longest-twice, longest-by_length, longest-one}
use Rattle.cox_inverse.proofs.TurnedAround.{turned-below, below-turned}
use Rattle.cox_inverse.proofs.laws.longest.Goals as goal

pub returns-clause-length : goal.returns-clause-length
returns-clause-length c = longest-length

pub returns-clause-longer_than_none : goal.returns-clause-longer_than_none
returns-clause-longer_than_none c = longest-most

pub returns-clause-order : goal.returns-clause-order
returns-clause-order c = λ A g longest is x w. (below-turned A g longest is x w, turned-below A g longest is x w)

pub returns-clause-twice : goal.returns-clause-twice
returns-clause-twice c = longest-twice

pub returns-clause-by_length : goal.returns-clause-by_length
returns-clause-by_length c = longest-by_length

pub returns-clause-one : goal.returns-clause-one
returns-clause-one c = longest-one
