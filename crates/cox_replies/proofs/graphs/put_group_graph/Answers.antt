-- The proof of `put_group_graph`.
use Rattle.std.proofs.Common.{◌≡◌, ◌∙◌, refl, rules}
use Rattle.cox_base.specs.IntegerMatrix.{integer_matrix}
use Rattle.cox_poly.proofs.Behind.{Puts-failed}
use Rattle.cox_wgraph.proofs.Listings.{some_listing}
use Rattle.cox_replies.proofs.Unless.{PutsPrefix-none}
use Rattle.cox_replies.proofs.graphs.put_group_graph.Goals as goal

pub returns-in_err-graph : goal.returns-in_err-graph
returns-in_err-graph c =
    let elements = c.args.rows.now.elements in
    let admissible = rw c.context.ensures.context at c.len.ensures.admissible in
    let list = some_listing (integer_matrix elements.matrix) admissible elements.members c.requires.whole in
    (_, (list.0, list.1, refl), Puts-failed _ _ _ _ (search rules) (PutsPrefix-none _ _ _ refl))

pub returns : goal.returns
returns c =
    let elements = c.args.rows.now.elements in
    let admissible = rw c.context.ensures.context at c.len.ensures.admissible in
    let list = some_listing (integer_matrix elements.matrix) admissible elements.members c.requires.whole in
    let same : c.in_ok-graph.graph ≡ elements = c.in_ok-graph.ensures {u = tt} ∙ c.context-2.ensures.context in
    (_, (list.0, list.1, refl), (rw same at c.put_vertices.ensures) list.0 list.1)
