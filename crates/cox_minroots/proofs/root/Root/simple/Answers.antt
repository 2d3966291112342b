-- A simple root has 1 at its letter, and 0 elsewhere.
use Rattle.cox_base.specs.declared.limits.TheConstants.{MAX_RANK}
use Rattle.cox_minroots.proofs.CoordinateLists.{simple-coordinates, simple-coordinates_small}
use Rattle.cox_minroots.proofs.root.Root.simple.Goals as goal

pub returns-clause-root : goal.returns-clause-root
returns-clause-root c = simple-coordinates MAX_RANK c.args.s c.requires.from_one c.requires.to_rank

pub returns-clause-coroot : goal.returns-clause-coroot
returns-clause-coroot c = simple-coordinates MAX_RANK c.args.s c.requires.from_one c.requires.to_rank

pub returns-clause-small : goal.returns-clause-small
returns-clause-small c = λ k. simple-coordinates_small _ c.args.s k (returns-clause-root c)

pub returns-clause-small_coroot : goal.returns-clause-small_coroot
returns-clause-small_coroot c = λ k. simple-coordinates_small _ c.args.s k (returns-clause-coroot c)
