-- A root out of the small roots dominates the simple root of the letter.
use Rattle.cox_small.proofs.ElementaryRoots.{small-pair, small-positive}
use Rattle.cox_small.proofs.Domination.{out-dominates}
use Rattle.cox_small.proofs.laws.steps_out.Goals as goal

pub returns : goal.returns
returns c = λ A g s b d h n far w sent. (out-dominates A g s (small-pair A g h) (small-positive A g h) n far).follows w sent
