-- Small roots are positive, with one coroot each, and are the elementary roots.
use Rattle.cox_small.proofs.ElementaryRoots.{small-positive, small-coroot, small_as_elementary, small-closed}
use Rattle.cox_small.proofs.laws.small_roots.Goals as goal

pub returns-clause-positive : goal.returns-clause-positive
returns-clause-positive c = λ A g b d h. small-positive A g h

pub returns-clause-coroot : goal.returns-clause-coroot
returns-clause-coroot c = λ A g b d e h k. small-coroot A g h k

pub returns-clause-elementary : goal.returns-clause-elementary
returns-clause-elementary c = small_as_elementary

pub returns-clause-closed : goal.returns-clause-closed
returns-clause-closed c = λ A g s b d h other up. small-closed A g s h other up
