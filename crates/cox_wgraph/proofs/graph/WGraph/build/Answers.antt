-- From no edges to all of them.
use Rattle.std.proofs.Common.{◌≡◌, length, replicate, rules, ◌∙◌, arith}
use Rattle.std.proofs.lemmas.List.{length-replicate, get_or-replicate}
use Rattle.cox_base.specs.IntegerMatrix.{integer_matrix}
use Rattle.cox_base.specs.Admissible.{IsAdmissible}
use Rattle.cox_context.specs.Closed.{IsClosed}
use Rattle.cox_wgraph.proofs.Built.{counted-start, counted-few, put-start, graph-of_put}
use Rattle.cox_wgraph.proofs.graph.WGraph.build.Goals as goal

pub count_edges-requires-clause-none : goal.count_edges-requires-clause-none
count_edges-requires-clause-none g c =
    let e = g.L.LowerRows.elements c.args.rows.now in
    let admissible : IsAdmissible (integer_matrix e.matrix) = rw c.requires.rows c.len-len.ensures.admissible in
    let len : c.len-len.result ≡ length e.members = rw c.requires.rows c.len-len.ensures.len in
    let all : c.in_ok-ends.ends.items ≡ replicate c.len-len.result 0 = c.in_ok-ends.ensures.items_if_clones_equal (search rules)
    in rw all (counted-start e admissible (replicate c.len-len.result 0) (length-replicate c.len-len.result 0 ∙ len)
    (λ a l. get_or-replicate c.len-len.result a 0 0 (omega (arith, l, len))))

pub add_up-total-requires-clause-small : goal.add_up-total-requires-clause-small
add_up-total-requires-clause-small g c a l =
    let e = g.L.LowerRows.elements c.args.rows.now in
    let admissible : IsAdmissible (integer_matrix e.matrix) = rw c.requires.rows c.len-len.ensures.admissible in
    let closed : IsClosed (integer_matrix e.matrix) e.members = rw c.requires.rows c.len-len.ensures.closed in
    let len : c.len-len.result ≡ length e.members = rw c.requires.rows c.len-len.ensures.len
    in counted-few e admissible c.len-len.result a c.count_edges.new.counts.items len closed.few c.count_edges.ensures l

pub put_edges-requires-clause-none : goal.put_edges-requires-clause-none
put_edges-requires-clause-none g c =
    let e = g.L.LowerRows.elements c.args.rows.now in
    let admissible : IsAdmissible (integer_matrix e.matrix) = rw c.requires.rows c.len-len.ensures.admissible in
    let len : c.len-len.result ≡ length e.members = rw c.requires.rows c.len-len.ensures.len
    in put-start e admissible c.count_edges.new.counts.items c.add_up-total.new.counts.items c.in_ok-edges.edges.items c.len-len.result len
    c.count_edges.ensures c.add_up-total.ensures.sums (omega
    (arith, c.in_ok-edges.ensures.len, c.in_ok-edges.edges.ok.0, c.add_up-total.ensures.total))

pub invariant_of-result : goal.invariant_of-result
invariant_of-result g c =
    let e = g.L.LowerRows.elements c.args.rows.now in
    let admissible : IsAdmissible (integer_matrix e.matrix) = rw c.requires.rows c.len-len.ensures.admissible in
    let len : c.len-len.result ≡ length e.members = rw c.requires.rows c.len-len.ensures.len
    in rw (← c.requires.rows) (graph-of_put e admissible c.put_edges.new.next.items c.put_edges.new.edges.items c.len-len.result len
    c.put_edges.ensures)
