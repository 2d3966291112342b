-- The proof of `put_vertices`.
use Rattle.std.proofs.Common.{◌<◌, length, get_or, decimal, refl, arith, rules}
use Rattle.std.specs.List.{flat_map}
use Rattle.cox_base.specs.IntegerMatrix.{integer_matrix}
use Rattle.cox_base.specs.SideDescents.{descent_set}
use Rattle.cox_poly.proofs.Behind.{PutsPrefix-next, PutsPrefix-second, Puts-failed, Puts-first, append-next, append-all, append-second}
use Rattle.cox_replies.proofs.GroupTexts.{vertex_line, no_vertex, vertices-text, vertices-count, vertex-element}
use Rattle.cox_replies.proofs.graphs.put_vertices.Goals as goal

pub returns-in_err-put_count : goal.returns-in_err-put_count
returns-in_err-put_count c = λ vertices are.
    let graph = c.args.graph.now in
    let A = integer_matrix graph.matrix in
    rw (vertices-text A graph.members c.requires.whole vertices are graph.matrix.rank (descent_set c.args.side A))
    (Puts-first _ (decimal (length graph.members)) (flat_map (vertex_line graph.matrix.rank (descent_set c.args.side A)) vertices) _ _
    (search rules)
    (rw c.len-count.ensures.len at (c.in_err-put_count.ensures {u = tt})))

pub returns-in_err-put_next_vertex : goal.returns-in_err-put_next_vertex
returns-in_err-put_next_vertex c = λ vertices are.
    let graph = c.args.graph.now in
    let A = integer_matrix graph.matrix in
    let i = c.loop-i.i in
    let line = vertex_line graph.matrix.rank (descent_set c.args.side A) in
    let count = vertices-count A graph.members c.requires.whole vertices are in
    let below : i < length vertices = omega (arith, count, c.loop-i-test.true, c.len-count.ensures.len) in
    let start = rw c.len-count.ensures.len at (c.in_ok-put_count.ensures {u = tt}) in
    let prefix = PutsPrefix-next line vertices i (get_or vertices i no_vertex) no_vertex _ _ _ below refl (c.loop-i.invariant vertices are)
    (c.in_err-put_next_vertex.ensures {u = tt} (get_or vertices i no_vertex) (are.each i no_vertex below)
    (vertex-element A graph.members c.requires.whole vertices are i below)) in
    rw (vertices-text A graph.members c.requires.whole vertices are graph.matrix.rank (descent_set c.args.side A))
    (Puts-failed _ _ _ _ (search rules) (PutsPrefix-second (decimal (length graph.members)) _ _ _ _ start prefix))

pub loop-i-preserved : goal.loop-i-preserved
loop-i-preserved c = λ vertices are.
    let graph = c.args.graph.now in
    let A = integer_matrix graph.matrix in
    let i = c.loop-i.i in
    let count = vertices-count A graph.members c.requires.whole vertices are in
    let below : i < length vertices = omega (arith, count, c.loop-i-test.true, c.len-count.ensures.len) in
    append-next (vertex_line graph.matrix.rank (descent_set c.args.side A)) vertices i (get_or vertices i no_vertex) no_vertex
    _ _ _ below refl
    (c.loop-i.invariant vertices are)
    (c.in_ok-put_next_vertex.ensures {u = tt} (get_or vertices i no_vertex) (are.each i no_vertex below)
    (vertex-element A graph.members c.requires.whole vertices are i below))

pub returns : goal.returns
returns c = λ vertices are.
    let graph = c.args.graph.now in
    let A = integer_matrix graph.matrix in
    let count = vertices-count A graph.members c.requires.whole vertices are in
    let start = rw c.len-count.ensures.len at (c.in_ok-put_count.ensures {u = tt}) in
    let whole = append-all (vertex_line graph.matrix.rank (descent_set c.args.side A)) vertices c.loop-i.i _ _ (omega (arith, count))
    (c.loop-i.invariant vertices are) in
    rw (vertices-text A graph.members c.requires.whole vertices are graph.matrix.rank (descent_set c.args.side A))
    (append-second (decimal (length graph.members)) _ _ _ _ start whole)
