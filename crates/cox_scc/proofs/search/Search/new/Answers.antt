-- No vertex was seen.
use Rattle.std.proofs.Common.{rules}
use Rattle.cox_scc.proofs.PassStates.{walk_none}
use Rattle.cox_scc.proofs.VisitedVertices.{none_in}
use Rattle.cox_scc.proofs.search.Search.new.Goals as goal

pub returns-clause-walk : goal.returns-clause-walk
returns-clause-walk c = walk_none _ _ c.in_ok-vec.ensures.len c.in_ok-vec-2.ensures.len c.in_ok-vec-3.ensures.len (search rules)
    (search rules)
    (none_in _ _ (c.in_ok-vec.ensures.items_if_clones_equal (λ y is. is)))
