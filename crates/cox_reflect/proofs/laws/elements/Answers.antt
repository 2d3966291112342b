-- Each clause is a lemma on words that name one element.
use Rattle.cox_reflect.proofs.Elements.{same-append, same-inverse}
use Rattle.cox_reflect.proofs.laws.elements.Goals as goal

pub returns-clause-product : goal.returns-clause-product
returns-clause-product c = λ A g u u' v v' e f. same-append A g e f

pub returns-clause-inverse : goal.returns-clause-inverse
returns-clause-inverse c = same-inverse
