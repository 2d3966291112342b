-- The root is seen after its turn, and what was seen before still is.
use Rattle.std.proofs.Common.{◌+◌, ◌<◌, false, vec_len, below_more, subst, sym, ◌∙◌, arith}
use Rattle.std.proofs.lemmas.List.{get_or_read_under}
use Rattle.cox_scc.proofs.AllClosed.{HadTurns}
use Rattle.cox_scc.proofs.VisitedVertices.{seen_visit}
use Rattle.cox_scc.proofs.search.Search.explore_all.Goals as goal
use Rattle.cox_scc.proofs.search.Search.explore_all.Goals.{then-not-index+in_ok-explore, else-not-index}

pub loop-root-preserved : goal.loop-root-preserved
loop-root-preserved c =
    let i = c.loop-root.invariant in
    elim c.if-not-index.branch [
      | then-not-index+in_ok-explore w ↦
          let e = w.in_ok-explore.ensures in
          subst (HadTurns c.args.adjacency.now (c.loop-root.root + 1)) (sym w.self-is) (record {
            walk = e.walk;
            idle = e.idle;
            seen = below_more _ _ (λ v lt is. i.seen v lt (e.seen v is)) e.found;
          })
      | else-not-index w ↦
          let root_in : c.loop-root.root < vec_len c.loop-root.self.seen = omega (arith, i.walk.seen_count, c.loop-root-test.true) in
          let read = get_or_read_under c.loop-root.self.seen.items c.loop-root.root (vec_len c.loop-root.self.seen) c.index.result.now false
          c.index.ensures root_in c.loop-root.self.seen.ok.0 in
          subst (HadTurns c.args.adjacency.now (c.loop-root.root + 1)) (sym w.self-is) (record {
            walk = i.walk;
            idle = i.idle;
            seen = below_more _ _ i.seen (seen_visit _ _ (sym read ∙ w.if-not-index.false));
          })
    ]
