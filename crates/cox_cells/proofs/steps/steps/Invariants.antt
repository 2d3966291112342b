-- The steps from the vertices so far are added.
use Rattle.std.proofs.Common.{◌≡◌, length}
use Rattle.cox_scc.specs.Graph.{vertices_of, edges_of}
use Rattle.cox_cells.specs.NumberedCells.{AreSteps}
use Rattle.cox_cells.proofs.steps.steps.Given as goal

abbrev pub invariant-loop-j : goal.invariant-loop-j
invariant-loop-j g l = record {
  vertices : vertices_of l.steps ≡ length l.context.members;
  steps : AreSteps l.kind l.context l.j (edges_of l.steps);
}
