-- Each clause is a lemma on Bruhat order: a partial order, with lengths, inverses and the least element.
use Rattle.cox_reflect.proofs.Bruhat.{below-refl, below-trans, below-antisym, below-least, below_identity, below-length, below-equal_length}
use Rattle.cox_reflect.proofs.laws.bruhat_order.Goals as goal

pub returns-clause-reflexive : goal.returns-clause-reflexive
returns-clause-reflexive c = λ A g y w e. below-refl A g e

pub returns-clause-transitive : goal.returns-clause-transitive
returns-clause-transitive c = λ A g x y w b d. below-trans A g b d

pub returns-clause-antisymmetric : goal.returns-clause-antisymmetric
returns-clause-antisymmetric c = λ A g y w b d. below-antisym A g b d

pub returns-clause-bottom : goal.returns-clause-bottom
returns-clause-bottom c = below-least

pub returns-clause-lengths : goal.returns-clause-lengths
returns-clause-lengths c = λ A g y w b. below-length A g b

pub returns-clause-equal_lengths : goal.returns-clause-equal_lengths
returns-clause-equal_lengths c = λ A g y w b e. below-equal_length A g b e

pub returns-clause-at_identity : goal.returns-clause-at_identity
returns-clause-at_identity c = below_identity
