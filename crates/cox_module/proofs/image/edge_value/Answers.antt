-- The search ends at the edge, or there is none.
use Rattle.std.proofs.Common.{rules, FitsSigned, w32}
use Rattle.std.proofs.lemmas.Int.{to_z-of_z}
use Rattle.std.proofs.lemmas.List.Sorted.{answers_always}
use Rattle.cox_base.specs.IntegerMatrix.{integer_matrix}
use Rattle.cox_wgraph.specs.NumberedEdges.{edge_at}
use Rattle.cox_module.proofs.EdgeSearch.{found-edge, no-edge}
use Rattle.cox_module.proofs.image.edge_value.Goals as goal

pub returns-in-Ok : goal.returns-in-Ok
returns-in-Ok c =
    let facts = c.in-Ok.ensures {u = tt} in
    let by_number = facts.position (λ e. e.to) (answers_always _ _ _ (λ f a r g called. search rules)) in
    let g = c.args.graph.now in
    let edges = c.edges-edges.result.now in
    let fits : FitsSigned w32 (edge_at edges c.in-Ok.place).value = search rules in
    simp to_z-of_z (found-edge (integer_matrix g.matrix) g.members c.args.i edges c.edges-edges.ensures.edges c.args.j c.requires.other
    c.in-Ok.place facts.bound by_number)

pub returns-in-Err : goal.returns-in-Err
returns-in-Err c =
    let facts = c.in-Err.ensures {u = tt} in
    let by_number = facts.position (λ e. e.to) (answers_always _ _ _ (λ f a r g called. search rules)) in
    let g = c.args.graph.now in
    no-edge (integer_matrix g.matrix) g.members c.args.i c.edges-edges.result.now c.edges-edges.ensures.edges c.args.j c.requires.other
    c.in-Err.field-0 facts.bound by_number
