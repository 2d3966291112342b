-- The proof of `put_next_vertex`.
use Rattle.std.proofs.Common.{◌∷◌, [], rules, pos, subst}
use Rattle.std.specs.List.{flat_map}
use Rattle.std.proofs.lemmas.List.{get_or_default}
use Rattle.cox_base.specs.IntegerMatrix.{integer_matrix}
use Rattle.cox_base.specs.SideDescents.{descent_set}
use Rattle.cox_reflect.proofs.NormalElements.{element-word}
use Rattle.cox_context.specs.Closed.{Elements}
use Rattle.cox_poly.specs.Puts.{Puts}
use Rattle.cox_poly.proofs.Behind.{Puts-first, Puts-second}
use Rattle.cox_context.specs.Numbers.{word_at}
use Rattle.cox_context.proofs.PlacedWords.{contains-at}
use Rattle.cox_print.specs.AnswerText.{head_text, edge_text}
use Rattle.cox_wgraph.specs.Listing.{Joined}
use Rattle.cox_wgraph.specs.NumberedEdges.{joined_of}
use Rattle.cox_replies.specs.GroupReply.{vertex_text}
use Rattle.cox_replies.proofs.GroupTexts.{head-is, joined-are, descents-letters}
use Rattle.cox_replies.proofs.graphs.put_next_vertex.Goals as goal

pub returns-in_err-put_end : goal.returns-in_err-put_end
returns-in_err-put_end c = λ v is at.
    Puts-first _ (10 ∷ []) (vertex_text c.args.graph.now.matrix.rank (descent_set c.args.side (integer_matrix c.args.graph.now.matrix)) v)
    _ _ (search rules) (c.in_err-put_end.ensures {u = tt})

pub put_head-requires-clause-word : goal.put_head-requires-clause-word
put_head-requires-clause-word c =
    let members = c.args.graph.now.members in
    let element = c.requires.whole.sound (word_at members c.args.i) (contains-at members c.args.i c.requires.member) in
    rw (c.word.ensures, c.rank.ensures.rank, c.matrix.ensures, c.context-context.ensures)
    (element-word (integer_matrix c.args.graph.now.matrix) c.len.ensures.admissible _ element)

pub put_head-requires-clause-label : goal.put_head-requires-clause-label
put_head-requires-clause-label c =
    rw (c.label.ensures, c.rank.ensures.rank, c.matrix.ensures, c.context-context.ensures)
    (descents-letters c.args.side (integer_matrix c.args.graph.now.matrix) (word_at c.args.graph.now.members c.args.i))

pub put_edges-requires : goal.put_edges-requires
put_edges-requires c = λ k d below.
    rw (c.context-context.ensures, get_or_default c.edges.result.now k d (record { to = 0; value = pos 0 }) below)
    (c.edges.ensures.edges.within k below)

pub returns : goal.returns
returns c = λ v is at.
    let graph = c.args.graph.now in
    let rank = graph.matrix.rank in
    let admissible = c.len.ensures.admissible in
    let head = head-is graph.members c.args.i v at rank (descent_set c.args.side (integer_matrix graph.matrix)) in
    let joined = joined-are (integer_matrix graph.matrix) admissible graph.members c.args.i v is at c.edges.result.now
    (c.edges.ensures.joined c.requires.whole) in
    let first = rw (c.word.ensures, c.label.ensures, c.rank.ensures.rank, c.matrix.ensures, c.context-context.ensures, head)
    at (c.in_ok-put_head.ensures {u = tt}) in
    let edges = subst (λ (e : Elements). Puts c.put_edges.result (flat_map (λ (j : Joined). edge_text e.matrix.rank j.element j.value)
    (joined_of e.members c.edges.result.now)) c.put_head.new.out.items c.put_edges.new.out.items) c.context-context.ensures
    c.put_edges.ensures in
    let last = rw joined at edges in
    Puts-second _ (10 ∷ []) (vertex_text rank (descent_set c.args.side (integer_matrix graph.matrix)) v) _ _ _
    (c.in_ok-put_end.ensures {u = tt})
    (Puts-second _ (head_text rank v.element (descent_set c.args.side (integer_matrix graph.matrix) v.element))
    (flat_map (λ (j : Joined). edge_text rank j.element j.value) v.joined) _ _ _ first
    last)
