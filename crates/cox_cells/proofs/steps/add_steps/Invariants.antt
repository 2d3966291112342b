-- The steps at the members so far are added.
use Rattle.std.proofs.Common.{◌≡◌}
use Rattle.cox_scc.specs.Graph.{vertices_of, edges_of}
use Rattle.cox_cells.specs.NumberedCells.{AreStepsTo}
use Rattle.cox_cells.proofs.steps.add_steps.Given as goal

abbrev pub invariant-loop-i : goal.invariant-loop-i
invariant-loop-i l = record {
  vertices : vertices_of l.steps ≡ vertices_of l.initial.steps;
  steps : AreStepsTo l.kind l.context l.j l.neighbours l.i-index (edges_of l.steps);
}
