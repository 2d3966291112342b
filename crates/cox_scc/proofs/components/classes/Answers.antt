-- All vertices are closed, and so their classes are right.
use Rattle.cox_scc.proofs.AllClosed.{same_of_code, least_of_code}
use Rattle.cox_scc.proofs.components.classes.Goals as goal

pub returns-clause-same : goal.returns-clause-same
returns-clause-same c =
    same_of_code _ _ c.in_ok-adjacency.adjacency c.explore_all.new.self _ c.in_ok-adjacency.ensures.vertices
    c.in_ok-adjacency.ensures.sorted
    c.in_ok-explore_all.ensures.walk c.in_ok-explore_all.ensures.seen c.into_classes.ensures

pub returns-clause-least : goal.returns-clause-least
returns-clause-least c =
    least_of_code _ _ c.in_ok-adjacency.adjacency c.explore_all.new.self _ c.in_ok-adjacency.ensures.vertices
    c.in_ok-adjacency.ensures.sorted
    c.in_ok-explore_all.ensures.walk c.in_ok-explore_all.ensures.seen c.into_classes.ensures
