-- The vertices before the root were seen, and none is being explored.
use Rattle.cox_scc.proofs.AllClosed.{HadTurns}
use Rattle.cox_scc.proofs.search.Search.explore_all.Given as goal

abbrev pub invariant-loop-root : goal.invariant-loop-root
invariant-loop-root l = HadTurns l.adjacency l.root l.self
