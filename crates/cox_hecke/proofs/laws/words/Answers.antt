-- Each clause is a lemma on operators of words.
use Rattle.std.proofs.Common.{ap}
use Rattle.cox_hecke.specs.Family.{Family}
use Rattle.cox_hecke.proofs.OperatorLaws.{left_word-same, right_word-same, left_inverse_word-same, left_word-basis, right_word-basis}
use Rattle.cox_hecke.proofs.Expansion.{inverse-expansion}
use Rattle.cox_hecke.proofs.laws.words.Goals as goal

pub returns-clause-left : goal.returns-clause-left
returns-clause-left c = λ A g u v h a b e r x k. ap (λ (f : Family). f x k) (left_word-same A g u v h a b e r)

pub returns-clause-right : goal.returns-clause-right
returns-clause-right c = λ A g u v h a b e r x k. ap (λ (f : Family). f x k) (right_word-same A g u v h a b e r)

pub returns-clause-left_inverse : goal.returns-clause-left_inverse
returns-clause-left_inverse c = λ A g u v h a b e r x k. ap (λ (f : Family). f x k) (left_inverse_word-same A g u v h a b e r)

pub returns-clause-basis : goal.returns-clause-basis
returns-clause-basis c = λ A g u r x k. ap (λ (f : Family). f x k) (left_word-basis A g u r)

pub returns-clause-right_basis : goal.returns-clause-right_basis
returns-clause-right_basis c = λ A g u r x k. ap (λ (f : Family). f x k) (right_word-basis A g u r)

pub returns-clause-inverse_basis : goal.returns-clause-inverse_basis
returns-clause-inverse_basis c = λ A g u r x k. inverse-expansion A g u x k r
