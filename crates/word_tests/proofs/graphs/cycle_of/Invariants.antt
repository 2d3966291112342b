-- Edges change no number of vertices.
use Rattle.std.proofs.Common.{◌≡◌}
use Rattle.cox_scc.specs.Graph.{vertices_of}
use Rattle.word_tests.proofs.graphs.cycle_of.Given as goal

abbrev pub invariant-loop-b : goal.invariant-loop-b
invariant-loop-b l = vertices_of l.graph ≡ l.n
