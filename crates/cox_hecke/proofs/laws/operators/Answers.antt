-- Each clause is a lemma on the operators with the sign `true`.
use Rattle.std.proofs.Common.{true, ap}
use Rattle.cox_hecke.specs.Family.{Family}
use Rattle.cox_hecke.proofs.Signed.{left-right, left_back-right_back, left_signed-back, back-left}
use Rattle.cox_hecke.proofs.OperatorLaws.{right-right_inverse, inverse-right}
use Rattle.cox_hecke.proofs.laws.operators.Goals as goal

pub returns-clause-commute : goal.returns-clause-commute
returns-clause-commute c = λ A g s t h l m r x k. ap (λ (f : Family). f x k) (left-right A g true s t h l m r)

pub returns-clause-inverses_commute : goal.returns-clause-inverses_commute
returns-clause-inverses_commute c = λ A g s t h l m r x k. ap (λ (f : Family). f x k) (left_back-right_back A g true s t h l m r)

pub returns-clause-left_of_inverse : goal.returns-clause-left_of_inverse
returns-clause-left_of_inverse c = λ A g s h l r x k. ap (λ (f : Family). f x k) (left_signed-back A g true s h l r)

pub returns-clause-inverse_of_left : goal.returns-clause-inverse_of_left
returns-clause-inverse_of_left c = λ A g s h l r x k. ap (λ (f : Family). f x k) (back-left A g true s h l r)

pub returns-clause-right_of_inverse : goal.returns-clause-right_of_inverse
returns-clause-right_of_inverse c = λ A g s h l r x k. ap (λ (f : Family). f x k) (right-right_inverse A g s h l r)

pub returns-clause-inverse_of_right : goal.returns-clause-inverse_of_right
returns-clause-inverse_of_right c = λ A g s h l r x k. ap (λ (f : Family). f x k) (inverse-right A g s h l r)
