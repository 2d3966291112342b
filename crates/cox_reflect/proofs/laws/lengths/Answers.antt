-- Each clause is a lemma on lengths.
use Rattle.cox_reflect.proofs.Lengths.{word_length-append, word_length-reverse}
use Rattle.cox_reflect.proofs.Deletion.{right_length, left_length, parity_mod}
use Rattle.cox_reflect.proofs.laws.lengths.Goals as goal

pub returns-clause-product : goal.returns-clause-product
returns-clause-product c = word_length-append

pub returns-clause-inverse : goal.returns-clause-inverse
returns-clause-inverse c = word_length-reverse

pub returns-clause-letter_right : goal.returns-clause-letter_right
returns-clause-letter_right c = right_length

pub returns-clause-letter_left : goal.returns-clause-letter_left
returns-clause-letter_left c = λ A g u s l. left_length A g s u l

pub returns-clause-parity : goal.returns-clause-parity
returns-clause-parity c = parity_mod
