-- The proof of `put_edges`.
use Rattle.std.proofs.Common.{◌≡◌, ◌++◌, refl, arith, rules, pos, FitsSigned, w32, w64, subst, ap, ◌∙◌}
use Rattle.std.proofs.lemmas.Int.{to_z-of_z}
use Rattle.cox_base.specs.Matrix.{CoxeterMatrix}
use Rattle.cox_reflect.proofs.NormalElements.{element-word}
use Rattle.cox_poly.specs.Puts.{PutsPrefix}
use Rattle.cox_print.specs.AnswerText.{edge_text}
use Rattle.cox_poly.proofs.Behind.{PutsPrefix-next, Puts-failed, append-all, append-next}
use Rattle.cox_context.specs.Numbers.{word_at}
use Rattle.cox_context.proofs.PlacedWords.{contains-at}
use Rattle.cox_wgraph.specs.NumberedEdges.{edge_at}
use Rattle.cox_replies.proofs.GroupTexts.{edge_at_text, edge-same, edges-text}
use Rattle.cox_replies.proofs.graphs.put_edges.Goals as goal

pub put_edge-requires-clause-word : goal.put_edge-requires-clause-word
put_edge-requires-clause-word c =
    let members = c.args.context.now.members in
    let to = (edge_at c.args.edges.now c.loop-edge.edge-index).to in
    let within = c.requires c.loop-edge.edge-index (record { to = 0; value = pos 0 }) c.loop-edge-test.true in
    let element = c.len.ensures.closed.element (word_at members to) (contains-at members to within) in
    rw (c.word.ensures, c.rank-rank.ensures.rank, c.matrix.ensures)
    (element-word _ c.len.ensures.admissible _ element)

pub returns : goal.returns
returns c =
    let edges = c.args.edges.now in
    let text = edge_at_text c.args.context.now.matrix.rank c.args.context.now.members in
    rw (edges-text c.args.context.now.matrix.rank c.args.context.now.members edges)
    (append-all text edges c.loop-edge.edge-index _ _ (omega arith) c.loop-edge.invariant)

pub returns-in_err-put_edge : goal.returns-in_err-put_edge
returns-in_err-put_edge c =
    let edges = c.args.edges.now in
    let text = edge_at_text c.args.context.now.matrix.rank c.args.context.now.members in
    let edge = edge_at edges c.loop-edge.edge-index in
    let fits : FitsSigned w32 edge.value = search rules in
    let from_fits : FitsSigned w64 c.from.result = search rules in
    let value = simp to_z-of_z at c.from.ensures in
    let same : edge_text c.rank-rank.result c.word.result.items c.from.result ≡ text edge =
    edge-same _ _ _ _ _ _ (c.rank-rank.ensures.rank ∙ ap (λ (g : CoxeterMatrix). g.rank) c.matrix.ensures) c.word.ensures value in
    let put : PutsPrefix (edge_text c.rank-rank.result c.word.result.items c.from.result) c.loop-edge.out.items c.put_edge.new.out.items =
    simp to_z-of_z at (c.in_err-put_edge.ensures {u = tt}) in
    rw (edges-text c.args.context.now.matrix.rank c.args.context.now.members edges)
    (Puts-failed _ _ _ _ (search rules) (PutsPrefix-next text edges c.loop-edge.edge-index edge (record { to = 0; value = pos 0 }) _ _ _
    c.loop-edge-test.true refl c.loop-edge.invariant
    (subst (λ t. PutsPrefix t c.loop-edge.out.items c.put_edge.new.out.items) same put)))

pub loop-edge-preserved : goal.loop-edge-preserved
loop-edge-preserved c =
    let edges = c.args.edges.now in
    let text = edge_at_text c.args.context.now.matrix.rank c.args.context.now.members in
    let edge = edge_at edges c.loop-edge.edge-index in
    let fits : FitsSigned w32 edge.value = search rules in
    let from_fits : FitsSigned w64 c.from.result = search rules in
    let value = simp to_z-of_z at c.from.ensures in
    let same : edge_text c.rank-rank.result c.word.result.items c.from.result ≡ text edge =
    edge-same _ _ _ _ _ _ (c.rank-rank.ensures.rank ∙ ap (λ (g : CoxeterMatrix). g.rank) c.matrix.ensures) c.word.ensures value in
    let put : c.put_edge.new.out.items ≡ c.loop-edge.out.items ++ edge_text c.rank-rank.result c.word.result.items c.from.result =
    simp to_z-of_z at (c.in_ok-put_edge.ensures {u = tt}) in
    append-next text edges c.loop-edge.edge-index edge (record { to = 0; value = pos 0 }) _ _ _
    c.loop-edge-test.true refl c.loop-edge.invariant (put ∙ ap (λ t. c.loop-edge.out.items ++ t) same)
