-- When all vertices are closed, their classes are right for the graph.
use Rattle.std.proofs.Common.{◌≡◌, ◌≢◌, ℕ, ◌<◌, List, [], vec_len, subst, sym, refl, arith}
use Rattle.std.specs.Global.{Vec}
use Rattle.cox_scc.specs.declared.adjacency.Adjacency.{Adjacency}
use Rattle.cox_scc.specs.declared.search.Search.{Search}
use Rattle.cox_scc.specs.Visits.{Visit, Unseen, Open, Closed}
use Rattle.cox_scc.specs.Reach.{HasEdge, Reaches, AreClasses, IsLeastOfClass}
use Rattle.cox_scc.specs.Sorted.{AreSorted}
use Rattle.cox_scc.specs.Walk.{visit_of, IsWalk, LeadsIn}
use Rattle.cox_scc.proofs.Reaching.{Reaches-map}
use Rattle.cox_scc.proofs.PassStates.{empty_stack}

-- the vertices below the root were seen, and none is being explored
pub record HadTurns (adjacency : Adjacency) (root : ℕ) (search : Search) : Type 0 where
  pub walk : IsWalk adjacency search []
  pub idle : search.waiting.items ≡ []
  pub seen : (v : ℕ) → v < root → visit_of search v ≢ Unseen

module _ (edges : List (ℕ × ℕ)) (adjacency : Adjacency)
    (sorted : AreSorted adjacency.vertices edges adjacency.offsets.items adjacency.targets.items) where
  -- the lists and the graph lead to the same vertices
  to_graph : {a b : ℕ} → a < adjacency.vertices → Reaches (LeadsIn adjacency) a b → Reaches (HasEdge edges) a b
  to_graph a_in r = Reaches-map (λ v. v < adjacency.vertices) (λ x y x_in lead.
      (subst (λ z. z < adjacency.vertices) lead.2 (adjacency.listed.vertex x lead.0 x_in lead.1), sorted.edge x y x_in lead)) a_in r

  to_lists : {a b : ℕ} → Reaches (HasEdge edges) a b → Reaches (LeadsIn adjacency) a b
  to_lists r = Reaches-map (λ v. Unit {0}) (λ x y always edge. (tt, sorted.all x y edge)) tt r

  module _ (search : Search) (walk : IsWalk adjacency search []) (seen : (v : ℕ) → v < adjacency.vertices
      → visit_of search v ≢ Unseen) where
    all_closed : (v : ℕ) → v < adjacency.vertices → visit_of search v ≡ Closed
    all_closed v v_in = by_visit (visit_of search v) refl
      where
        by_visit : (x : Visit) → visit_of search v ≡ x → visit_of search v ≡ Closed
        by_visit Unseen is = absurd (seen v v_in is)
        by_visit (Open place) is =
            let below : place < vec_len search.stack = (walk.placed.found v place v_in is).0 in
            absurd (omega (arith, empty_stack adjacency search walk))
        by_visit Closed is = is

    pub classes_same : AreClasses (HasEdge edges) adjacency.vertices search.classes.items
    classes_same a b a_in b_in =
        let same = walk.settled.same a b a_in b_in (all_closed a a_in) (all_closed b b_in) in
        (λ e. (to_graph a_in (same.0 e).0, to_graph b_in (same.0 e).1), λ r. same.1 (to_lists r.0, to_lists r.1))

    pub classes_least : (a : ℕ) → a < adjacency.vertices → IsLeastOfClass adjacency.vertices search.classes.items a
    classes_least a a_in = record {
      vertex = walk.settled.vertex a a_in (all_closed a a_in);
      member = walk.settled.number a a_in (all_closed a a_in);
      least = λ b b_in e. walk.settled.least a b a_in b_in (all_closed a a_in) (all_closed b b_in) e;
    }

-- the same by what the code has
pub same_of_code : (graph_edges : List (ℕ × ℕ)) (n : ℕ) (adjacency : Adjacency) (search : Search) (classes : Vec ℕ) → adjacency.vertices ≡ n
    → AreSorted n graph_edges adjacency.offsets.items adjacency.targets.items → IsWalk adjacency search []
    → ((v : ℕ) → v < adjacency.vertices → visit_of search v ≢ Unseen) → classes ≡ search.classes
    → AreClasses (HasEdge graph_edges) n classes.items
same_of_code graph_edges n adjacency search classes n_is sorted walk seen classes_are =
    subst (λ z. AreClasses (HasEdge graph_edges) n z.items) (sym classes_are)
    (subst (λ z. AreClasses (HasEdge graph_edges) z search.classes.items) n_is
    (classes_same graph_edges adjacency
    (subst (λ z. AreSorted z graph_edges adjacency.offsets.items adjacency.targets.items) (sym n_is) sorted) search walk seen))

pub least_of_code : (graph_edges : List (ℕ × ℕ)) (n : ℕ) (adjacency : Adjacency) (search : Search) (classes : Vec ℕ)
    → adjacency.vertices ≡ n
    → AreSorted n graph_edges adjacency.offsets.items adjacency.targets.items → IsWalk adjacency search []
    → ((v : ℕ) → v < adjacency.vertices → visit_of search v ≢ Unseen) → classes ≡ search.classes
    → (a : ℕ) → a < n → IsLeastOfClass n classes.items a
least_of_code graph_edges n adjacency search classes n_is sorted walk seen classes_are =
    subst (λ z. (a : ℕ) → a < n → IsLeastOfClass n z.items a) (sym classes_are)
    (subst (λ z. (a : ℕ) → a < z → IsLeastOfClass z search.classes.items a) n_is
    (classes_least graph_edges adjacency
    (subst (λ z. AreSorted z graph_edges adjacency.offsets.items adjacency.targets.items) (sym n_is) sorted) search walk seen))
