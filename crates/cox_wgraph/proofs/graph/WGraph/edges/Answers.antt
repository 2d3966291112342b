-- The part of the list from the start of the vertex to its end.
use Rattle.std.proofs.Common.{◌≡◌, ◌<◌, length, slice_index_or, arith}
use Rattle.std.proofs.lemmas.List.{get_or_read}
use Rattle.cox_base.specs.IntegerMatrix.{integer_matrix}
use Rattle.cox_wgraph.proofs.EdgesOfMembers.{start-is, end-after_start, end-within, listed_edges, joined-of_edges}
use Rattle.cox_wgraph.proofs.graph.WGraph.edges.Goals as goal

pub part-requires-clause-start : goal.part-requires-clause-start
part-requires-clause-start c =
    let e = c.self.inside.context.now in
    let l : c.args.i < length e.members = rw c.self.view_is c.requires in
    let start = start-is e c.len-len.ensures.admissible c.self.inside.ends.items c.self.inside.edges.items c.self.invariant c.args.i l
    c.start-start.result c.start-start.ensures.first (rw c.deref.ensures.value at c.start-start.ensures.later) in
    let end : c.index.result.now ≡ slice_index_or c.self.inside.ends.items c.args.i 0 =
    get_or_read c.self.inside.ends.items c.args.i c.index.result.now (omega (arith, l, c.self.invariant.size)) c.index.ensures 0
    in omega (
      arith,
      start,
      end,
      end-after_start e c.len-len.ensures.admissible c.self.inside.ends.items c.self.inside.edges.items c.self.invariant
          c.args.i l,
    )

pub part-requires-clause-end : goal.part-requires-clause-end
part-requires-clause-end c =
    let e = c.self.inside.context.now in
    let l : c.args.i < length e.members = rw c.self.view_is c.requires in
    let end : c.index.result.now ≡ slice_index_or c.self.inside.ends.items c.args.i 0 =
    get_or_read c.self.inside.ends.items c.args.i c.index.result.now (omega (arith, l, c.self.invariant.size)) c.index.ensures 0
    in rw c.deref-2.ensures.value
    (omega (
      arith,
      end,
      end-within e c.len-len.ensures.admissible c.self.inside.ends.items c.self.inside.edges.items c.self.invariant
          c.args.i l,
    ))

pub returns-clause-edges : goal.returns-clause-edges
returns-clause-edges c =
    let e = c.self.inside.context.now in
    let l : c.args.i < length e.members = rw c.self.view_is c.requires in
    let start = start-is e c.len-len.ensures.admissible c.self.inside.ends.items c.self.inside.edges.items c.self.invariant c.args.i l
    c.start-start.result c.start-start.ensures.first (rw c.deref.ensures.value at c.start-start.ensures.later) in
    let end : c.index.result.now ≡ slice_index_or c.self.inside.ends.items c.args.i 0 =
    get_or_read c.self.inside.ends.items c.args.i c.index.result.now (omega (arith, l, c.self.invariant.size)) c.index.ensures 0
    in rw (← c.self.view_is, c.part.ensures, c.deref-2.ensures.value) (listed_edges e c.len-len.ensures.admissible c.self.inside.ends.items
    c.self.inside.edges.items c.self.invariant c.args.i l c.start-start.result c.index.result.now start end)

pub returns-clause-joined : goal.returns-clause-joined
returns-clause-joined c all = joined-of_edges (integer_matrix c.args.self.now.matrix) c.args.self.now.members c.args.i c.part.result.now
    (returns-clause-edges c) all
