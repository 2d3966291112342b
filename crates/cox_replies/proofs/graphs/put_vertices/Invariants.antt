-- What the loop of `put_vertices` keeps.
use Rattle.std.proofs.Common.{◌≡◌, ◌++◌, take, List}
use Rattle.std.specs.List.{flat_map}
use Rattle.cox_base.specs.IntegerMatrix.{integer_matrix}
use Rattle.cox_base.specs.SideDescents.{descent_set}
use Rattle.cox_wgraph.specs.Listing.{Vertex, AreVertices}
use Rattle.cox_replies.proofs.GroupTexts.{vertex_line}
use Rattle.cox_replies.proofs.graphs.put_vertices.Given as goal

abbrev pub invariant-loop-i : goal.invariant-loop-i
invariant-loop-i l = (vertices : List Vertex) → AreVertices (integer_matrix l.graph.matrix) vertices
    → l.out.items ≡ l.initial.out.items ++ flat_map (vertex_line l.graph.matrix.rank (descent_set l.side (integer_matrix l.graph.matrix)))
    (take l.i vertices)
