-- Each clause is a lemma on normal forms: the search finds them, and they come first in ShortLex order.
use Rattle.cox_reflect.proofs.Search.{normal_form-same, IsWord-normal_form, word_length-least, normal_form-tells}
use Rattle.cox_reflect.proofs.Lengths.{IsReduced-normal_form}
use Rattle.cox_reflect.proofs.ShortLexFirst.{none-less, only-least}
use Rattle.cox_reflect.proofs.NormalForm.{normal_form-descent, normal_form_empty}
use Rattle.cox_reflect.proofs.laws.normal_forms.Goals as goal

pub returns-clause-names : goal.returns-clause-names
returns-clause-names c = normal_form-same

pub returns-clause-word : goal.returns-clause-word
returns-clause-word c = IsWord-normal_form

pub returns-clause-reduced : goal.returns-clause-reduced
returns-clause-reduced c = IsReduced-normal_form

pub returns-clause-least : goal.returns-clause-least
returns-clause-least c = λ A g u v e. word_length-least A g e

pub returns-clause-first : goal.returns-clause-first
returns-clause-first c = none-less

pub returns-clause-unique : goal.returns-clause-unique
returns-clause-unique c = only-least

pub returns-clause-same : goal.returns-clause-same
returns-clause-same c = normal_form-tells

pub returns-clause-first_letter : goal.returns-clause-first_letter
returns-clause-first_letter c = normal_form-descent

pub returns-clause-empty : goal.returns-clause-empty
returns-clause-empty c = normal_form_empty
