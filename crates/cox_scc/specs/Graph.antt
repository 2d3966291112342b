-- A `Digraph` as plain data.
use Rattle.std.specs.Prelude.{ℕ, List}
use Rattle.cox_scc.specs.declared.digraph.Digraph.{Digraph}

-- how many vertices there are
abbrev pub vertices_of : Digraph → ℕ
vertices_of graph = graph.vertices

-- the edges in the order in which they were added, each as where it begins and where it ends
abbrev pub edges_of : Digraph → List (ℕ × ℕ)
edges_of graph = graph.edges.items
