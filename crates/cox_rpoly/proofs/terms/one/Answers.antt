-- The list of 1 and zeros is the polynomial 1.
use Rattle.cox_rpoly.proofs.CombinedTerms.{coefficient-one}
use Rattle.cox_rpoly.proofs.terms.one.Goals as goal

pub returns : goal.returns
returns c = λ k. coefficient-one k
