-- Each clause is a lemma on Bruhat order: by chains, and by the subwords of any reduced word.
use Rattle.cox_reflect.proofs.Bruhat.{below-chain, chain-below, below_by_subword, below-subword, below_reverse}
use Rattle.cox_reflect.proofs.laws.bruhat.Goals as goal

pub returns-clause-chains : goal.returns-clause-chains
returns-clause-chains c = λ A g y w. (below-chain A g, chain-below A g)

pub returns-clause-subwords : goal.returns-clause-subwords
returns-clause-subwords c = λ A g y w u h e. below_by_subword A g u h e

pub returns-clause-subwords_of_any : goal.returns-clause-subwords_of_any
returns-clause-subwords_of_any c = λ A g y w u e b. below-subword A g b u e

pub returns-clause-inverse : goal.returns-clause-inverse
returns-clause-inverse c = below_reverse
