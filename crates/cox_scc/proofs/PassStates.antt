-- The whole state of the pass before and after each step.
use Rattle.std.proofs.Common.{◌≡◌, ◌≢◌, ℕ, ◌+◌, ◌-◌, ◌<◌, ◌≤◌, ◌==◌, inl, inr, Bool, true, false, cond, List, [], ◌∷◌, ◌++◌, length}
use Rattle.std.proofs.Common.{get_or, slice_index, vec_len, Contains, ⊎_elim, subst, sym, refl, ◌∙◌, ap, arith}
use Rattle.std.specs.Prelude.{not, count_by, slice_index_or}
use Rattle.std.proofs.lemmas.Bool.{cases_lt, cases_eq}
use Rattle.std.proofs.lemmas.Bool.Decides.{nat_tests}
use Rattle.std.proofs.lemmas.List.{get_or_append_left, get_or_push, get_or_read_under, get_or-take, length-set}
use Rattle.std.proofs.lemmas.List.{length_push, length-take-le}
use Rattle.std.proofs.lemmas.List.Elements.{Contains-append_left, Contains-push, Contains-push_cases, Contains-get_or}
use Rattle.std.specs.Global.{Vec}
use Rattle.cox_scc.specs.declared.adjacency.Adjacency.{Adjacency}
use Rattle.cox_scc.specs.declared.search.Search.{Search}
use Rattle.cox_scc.specs.declared.search.Waiting.{Waiting}
use Rattle.cox_scc.specs.declared.search.Followed.{Followed}
use Rattle.cox_scc.specs.Visits.{Unseen, Open, Closed, nowhere, visit_by}
use Rattle.cox_scc.specs.Reach.{Reaches}
use Rattle.cox_scc.specs.Sorted.{IsFrom}
use Rattle.cox_scc.specs.Walk.{AreOnStack, AreFollowed, AreStacked, AreSettled, IsStackChain, LiesFrom, visit_of, places_of, IsWalk}
use Rattle.cox_scc.specs.Walk.{LeadsIn, StaySeen, Enters, Begins, Follows, Joins, ClosesClass, Finishes}
use Rattle.cox_scc.proofs.Stacks.{rising_below, rising_last}
use Rattle.cox_scc.proofs.Paths.{places_push, place_in}
use Rattle.cox_scc.proofs.Pigeonholes.{stack_fits}
use Rattle.cox_scc.proofs.Reaching.{Reaches-join, Reaches-step}
use Rattle.cox_scc.proofs.StackedVertices.{chain_down, chain_enter, chain_join, chain_leave}
use Rattle.cox_scc.proofs.VisitedVertices.{open_at, lies_at, unseen-set, unseen_visit, visit_unseen}
use Rattle.cox_scc.proofs.Keeping.{same_place, placed_enter, followed_enter, settled_enter, stacked_enter, stacked_join, followed_advance}
use Rattle.cox_scc.proofs.Keeping.{followed_retreat, stacked_retreat}
use Rattle.cox_scc.proofs.Closing.{placed_close, followed_close, stacked_close, settled_close}

-- the vertex v, which was not seen, comes onto the stack
module _ (old new : Search) (v : ℕ) (enters : Enters old new v) where
  top_is : slice_index new.stack.items (vec_len old.stack) ≡ v
  top_is = ap (λ z. get_or z (vec_len old.stack) 0) enters.stack ∙ get_or_push old.stack.items v 0 (vec_len old.stack) (sym old.stack.ok.0)

  below_stays : (p : ℕ) → p < vec_len old.stack → slice_index new.stack.items p ≡ slice_index old.stack.items p
  below_stays p within = ap (λ z. get_or z p 0) enters.stack
      ∙ get_or_append_left old.stack.items (v ∷ []) 0 p (subst (λ z. p < z) old.stack.ok.0 within)

  taller : vec_len new.stack ≡ vec_len old.stack + 1
  taller = new.stack.ok.0 ∙ ap (length {A = ℕ}) enters.stack ∙ length_push old.stack.items v ∙ ap (λ z. z + 1) (sym old.stack.ok.0)

  pub enter_seen : StaySeen old new
  enter_seen w is = ⊎_elim
      (λ e. let both : Open (vec_len old.stack) ≡ Unseen = sym enters.opened ∙ ap (visit_of new) (sym e) ∙ is in cc)
      (λ ne. sym (enters.others w ne) ∙ is)
      (cases_eq w v)

  -- one vertex less was not seen
  pub enter_count : v < vec_len old.seen → visit_of old v ≡ Unseen → count_by not new.seen.items + 1 ≡ count_by not old.seen.items
  enter_count v_in unseen = ap (λ z. count_by not z + 1) enters.seen
      ∙ unseen-set old.seen.items v (omega (arith, old.seen.ok.0)) (unseen_visit _ _ unseen)

  pub walk_enter : (adjacency : Adjacency) (path : List Waiting) (there : Waiting) → v < adjacency.vertices → visit_of old v ≡ Unseen
      → ((p : ℕ) → p + 1 ≡ vec_len old.stack → Reaches (LeadsIn adjacency) (slice_index old.stack.items p) v)
      → Begins adjacency old v there
      → IsWalk adjacency old path → IsWalk adjacency new (path ++ there ∷ [])
  walk_enter adjacency path there v_in unseen reached begins walk =
      let n : ℕ = adjacency.vertices in
      let size : ℕ = vec_len old.stack in
      let longer : List ℕ = places_of path ++ size ∷ [] in
      let path_is : places_of (path ++ there ∷ []) ≡ longer = places_push path there ∙ ap (λ z. places_of path ++ z ∷ []) begins.place in
      let offset : ℕ → ℕ = slice_index adjacency.offsets.items in
      let target : ℕ → ℕ = slice_index adjacency.targets.items in
      let stack : ℕ → ℕ = slice_index new.stack.items in record {
        seen_count = new.seen.ok.0 ∙ ap (length {A = Bool}) enters.seen ∙ length-set old.seen.items v true ∙ sym old.seen.ok.0
            ∙ walk.seen_count;
        places_count = enters.places_count ∙ walk.places_count;
        classes_count = ap (λ z. z.len) enters.classes ∙ walk.classes_count;
        placed = subst (AreOnStack n (visit_of new) stack) (sym taller)
            (placed_enter n size v (visit_of old) (visit_of new) (slice_index old.stack.items) stack enters.opened enters.others
            top_is below_stays unseen v_in walk.placed);
        chain = subst (λ z. IsStackChain (LeadsIn adjacency) stack z new.parts.items) (sym taller)
            (subst (IsStackChain (LeadsIn adjacency) stack (size + 1)) (sym enters.parts)
            (chain_enter (LeadsIn adjacency) (slice_index old.stack.items) size old.parts.items walk.chain v stack below_stays
            top_is reached));
        next = walk.next;
        resumes = λ w on. ⊎_elim
            (λ was. let within : w.place < size = walk.stacked.below w.place (place_in path w was) in
            ap walk.next (below_stays w.place within) ∙ walk.resumes w was)
            (λ is. let place_is : w.place ≡ size = ap (λ (z : Waiting). z.place) (sym is) ∙ begins.place in
            ap (λ p. walk.next (stack p)) place_is ∙ ap walk.next top_is ∙ walk.followed.fresh v v_in unseen ∙ sym begins.next
            ∙ ap (λ (z : Waiting). z.next) is)
            (Contains-push_cases path there w on);
        followed = subst (AreFollowed n offset target (visit_of new) walk.next stack (vec_len new.stack) new.parts.items) (sym path_is)
            (subst (λ z. AreFollowed n offset target (visit_of new) walk.next stack z new.parts.items longer) (sym taller)
            (subst (λ z. AreFollowed n offset target (visit_of new) walk.next stack (size + 1) z longer) (sym enters.parts)
            (followed_enter n size v (visit_of old) (visit_of new) (slice_index old.stack.items) stack enters.opened enters.others
            top_is below_stays unseen offset target walk.next old.parts.items (places_of path) v_in
            (λ b part. walk.stacked.below b (walk.stacked.on_path b part)) walk.followed)));
        stacked = subst (AreStacked (vec_len new.stack) new.parts.items) (sym path_is)
            (subst (λ z. AreStacked z new.parts.items longer) (sym taller)
            (subst (λ z. AreStacked (size + 1) z longer) (sym enters.parts)
            (stacked_enter size old.parts.items (places_of path) walk.stacked)));
        settled = subst (λ z. AreSettled (LeadsIn adjacency) n (visit_of new) (slice_index z.items)) (sym enters.classes)
            (settled_enter n size v (visit_of old) (visit_of new) (slice_index old.stack.items) stack enters.opened enters.others
            top_is below_stays unseen (LeadsIn adjacency) (slice_index old.classes.items) walk.settled);
      }

-- the same vertex, with what was followed of its edges
abbrev pub at_next : Waiting → Followed → Waiting
at_next here followed = record { place = here.place; next = followed.next }

-- the vertex at the end of the path
module _ (adjacency : Adjacency) (search : Search) (rest : List Waiting) (here : Waiting)
    (walk : IsWalk adjacency search (rest ++ here ∷ [])) where
  abbrev vertex : ℕ
  vertex = slice_index search.stack.items here.place

  abbrev end : ℕ
  end = slice_index adjacency.offsets.items (vertex + 1)

  path_is : places_of (rest ++ here ∷ []) ≡ places_of rest ++ here.place ∷ []
  path_is = places_push rest here

  pub stacked_here : AreStacked (vec_len search.stack) search.parts.items (places_of rest ++ here.place ∷ [])
  stacked_here = subst (AreStacked (vec_len search.stack) search.parts.items) path_is walk.stacked

  pub followed_here : AreFollowed adjacency.vertices (slice_index adjacency.offsets.items) (slice_index adjacency.targets.items)
      (visit_of search) walk.next (slice_index search.stack.items) (vec_len search.stack) search.parts.items
      (places_of rest ++ here.place ∷ [])
  followed_here = subst (AreFollowed adjacency.vertices (slice_index adjacency.offsets.items) (slice_index adjacency.targets.items)
      (visit_of search) walk.next (slice_index search.stack.items) (vec_len search.stack) search.parts.items) path_is walk.followed

  pub here_in : here.place < vec_len search.stack
  here_in = stacked_here.below here.place (Contains-push (places_of rest) here.place)

  pub vertex_in : vertex < adjacency.vertices
  vertex_in = walk.placed.vertex here.place here_in

  pub next_is : walk.next vertex ≡ here.next
  next_is = walk.resumes here (Contains-push rest here)

  -- what is left of the edges of the vertex
  pub before_end : here.next ≤ end
  before_end = omega (arith, walk.followed.within vertex vertex_in, next_is)

  pub end_in : end ≤ vec_len adjacency.targets
  end_in = omega (arith, adjacency.listed.room vertex vertex_in, adjacency.targets.ok.0)

  edge_from : (e : ℕ) → here.next ≤ e → e < end → IsFrom adjacency.offsets.items vertex e
  edge_from e from upto = record { begun = omega (arith, walk.followed.begun vertex vertex_in, next_is, from); within = upto }

  pub target_in : (e : ℕ) → here.next ≤ e → e < end → slice_index adjacency.targets.items e < adjacency.vertices
  target_in e from upto = adjacency.listed.vertex vertex e vertex_in (edge_from e from upto)

  leads : (e : ℕ) → here.next ≤ e → e < end → Reaches (LeadsIn adjacency) vertex (slice_index adjacency.targets.items e)
  leads e from upto = Reaches-step (e, edge_from e from upto, refl)

  -- no part begins after the end of the path
  pub parts_below : (b : ℕ) → Contains search.parts.items b → b ≤ here.place
  parts_below b part = ⊎_elim (λ waits. let lt : b < here.place =
      rising_below (places_of rest) here.place b stacked_here.path_rises waits in
      omega arith) (λ is. omega arith)
      (Contains-push_cases (places_of rest) here.place b (stacked_here.on_path b part))

  -- all vertices above reach the end of an edge
  pub last_leads : (e : ℕ) → here.next ≤ e → e < end → (p : ℕ) → p + 1 ≡ vec_len search.stack
      → Reaches (LeadsIn adjacency) (slice_index search.stack.items p) (slice_index adjacency.targets.items e)
  last_leads e from upto p last =
      let within : here.place < vec_len search.stack = here_in in
      Reaches-join (chain_down (LeadsIn adjacency) (slice_index search.stack.items)
      (vec_len search.stack) search.parts.items walk.chain here.place p
      parts_below (omega arith) (omega arith)) (leads e from upto)

  -- what the code reads at the end of the path
  pub vertex_read : (v : ℕ) → v ≡ get_or search.stack.items here.place v → v ≡ vertex
  vertex_read v is = get_or_read_under search.stack.items here.place (vec_len search.stack) v 0 is here_in search.stack.ok.0

  pub in_offsets : (v : ℕ) → v ≡ vertex → v + 1 < vec_len adjacency.offsets
  in_offsets v is = omega (arith, vertex_in, adjacency.listed.count, adjacency.offsets.ok.0)

  pub read_end : (v o : ℕ) → v ≡ vertex → o ≡ get_or adjacency.offsets.items (v + 1) o → o ≡ end
  read_end v o v_is is = get_or_read_under adjacency.offsets.items (v + 1) (vec_len adjacency.offsets) o 0 is
      (in_offsets v v_is) adjacency.offsets.ok.0
      ∙ ap (λ z. slice_index adjacency.offsets.items (z + 1)) v_is

  -- its edges were followed up to another one
  module _ (followed : Followed)
      (follows : Follows search.seen.items search.places.items adjacency.targets.items here end followed) where
    abbrev after : Waiting
    after = at_next here followed

    visit_is : (e : ℕ) → here.next ≤ e → e < followed.next
        → visit_of search (slice_index adjacency.targets.items e)
        ≡ visit_by true (slice_index search.places.items (slice_index adjacency.targets.items e))
    visit_is e from upto =
        ap (λ z. visit_by z (slice_index search.places.items (slice_index adjacency.targets.items e))) (follows.was_seen e from upto)

    lies : (e : ℕ) → here.next ≤ e → e < followed.next
        → LiesFrom followed.low (visit_of search (slice_index adjacency.targets.items e))
    lies e from upto = subst (LiesFrom followed.low) (sym (visit_is e from upto))
        (lies_at followed.low (slice_index search.places.items (slice_index adjacency.targets.items e)) (follows.least e from upto))

    low_is : followed.low < nowhere
    low_is = omega (
      arith,
      follows.below,
      here_in,
      adjacency.few,
      stack_fits adjacency.vertices (visit_of search) (slice_index search.stack.items) (vec_len search.stack) walk.placed,
    )

    low_reached : Reaches (LeadsIn adjacency) vertex (slice_index search.stack.items followed.low)
    low_reached = ⊎_elim
        (λ (is : followed.low ≡ here.place). subst (λ z. Reaches (LeadsIn adjacency) vertex (slice_index search.stack.items z)) (sym is)
        (Reaches.itself vertex))
        (λ met. let before : met.0 < end = omega (arith, met.2, follows.within) in
        let opened : visit_of search (slice_index adjacency.targets.items met.0) ≡ Open followed.low =
        visit_is met.0 met.1 met.2 ∙ ap (visit_by true) (sym met.3) ∙ open_at followed.low low_is in
        let found = walk.placed.found (slice_index adjacency.targets.items met.0) followed.low (target_in met.0 met.1 before) opened in
        subst (Reaches (LeadsIn adjacency) vertex) (sym found.1) (leads met.0 met.1 before))
        follows.met

    later : ℕ → ℕ
    later v = cond (v == vertex) followed.next (walk.next v)

    later_here : later vertex ≡ followed.next
    unfolding later
    later_here = grind (arith, nat_tests)

    later_other : (v : ℕ) → v ≢ vertex → later v ≡ walk.next v
    unfolding later
    later_other v ne = grind (arith, nat_tests)

    pub walk_follow : (fewer : Vec ℕ) → Joins search.parts.items fewer.items followed.low
        → IsWalk adjacency (record search { parts = fewer }) (rest ++ after ∷ [])
    walk_follow fewer joins =
        let n : ℕ = adjacency.vertices in
        let size : ℕ = vec_len search.stack in
        let stack : ℕ → ℕ = slice_index search.stack.items in
        let offset : ℕ → ℕ = slice_index adjacency.offsets.items in
        let target : ℕ → ℕ = slice_index adjacency.targets.items in
        let after_is : places_of (rest ++ after ∷ []) ≡ places_of rest ++ here.place ∷ [] = places_push rest after in record {
          seen_count = walk.seen_count;
          places_count = walk.places_count;
          classes_count = walk.classes_count;
          placed = walk.placed;
          chain = chain_join (LeadsIn adjacency) stack size search.parts.items walk.chain fewer.items here.place followed.low
              here_in (omega (arith, follows.below, here_in)) parts_below joins.kept low_reached;
          next = later;
          resumes = λ w on. ⊎_elim
              (λ was. let below : w.place < here.place =
              rising_below (places_of rest) here.place w.place stacked_here.path_rises (place_in rest w was) in
              let ne : stack w.place ≢ vertex = λ is. (let same : w.place ≡ here.place =
              same_place n (visit_of search) stack size walk.placed w.place here.place (omega (arith, here_in)) here_in is in
              omega arith) in
              later_other (stack w.place) ne ∙ walk.resumes w (Contains-append_left rest (here ∷ []) w was))
              (λ is. subst (λ (z : Waiting). later (stack z.place) ≡ z.next) is later_here)
              (Contains-push_cases rest after w on);
          followed = subst (AreFollowed n offset target (visit_of search) later stack size fewer.items) (sym after_is)
              (followed_advance n offset target (visit_of search) walk.next later stack size here.place followed.low
              search.parts.items fewer.items (places_of rest ++ here.place ∷ [])
              (omega (arith, next_is, later_here, follows.begun)) later_other here_in (Contains-push (places_of rest) here.place)
              (omega (arith, later_here, follows.within))
              (λ e from upto. lies e (omega (arith, next_is)) (omega (arith, later_here)))
              joins.was walk.placed followed_here);
          stacked = subst (AreStacked size fewer.items) (sym after_is)
              (stacked_join size followed.low search.parts.items fewer.items (places_of rest ++ here.place ∷ []) joins.rise
              (λ b part. (joins.was b part).0) joins.kept stacked_here);
          settled = walk.settled;
        }

-- what holds once edges of the vertex at the end of the path were followed, and the parts joined
pub record HasFollowed (adjacency : Adjacency) (old joined : Search) (rest : List Waiting) (here : Waiting) (end : ℕ) (followed : Followed)
    : Type 0 where
  pub walk : IsWalk adjacency joined (rest ++ at_next here followed ∷ [])
  pub end_is : end ≡ slice_index adjacency.offsets.items (slice_index joined.stack.items here.place + 1)
  pub unseen : followed.next < end → visit_of joined (slice_index adjacency.targets.items followed.next) ≡ Unseen
  pub stays : StaySeen old joined
  pub seen : joined.seen ≡ old.seen
  pub waiting : joined.waiting ≡ old.waiting

has_followed : (adjacency : Adjacency) (old : Search) (fewer : Vec ℕ) (rest : List Waiting) (here : Waiting) (followed : Followed)
    → (walk : IsWalk adjacency old (rest ++ here ∷ []))
    → Follows old.seen.items old.places.items adjacency.targets.items here
    (slice_index adjacency.offsets.items (slice_index old.stack.items here.place + 1)) followed
    → Joins old.parts.items fewer.items followed.low
    → HasFollowed adjacency old (record old { parts = fewer }) rest here
    (slice_index adjacency.offsets.items (slice_index old.stack.items here.place + 1)) followed
has_followed adjacency old fewer rest here followed walk follows joins = record {
  walk = walk_follow adjacency old rest here walk followed follows fewer joins;
  end_is = refl;
  unseen = λ more. visit_unseen _ _ (follows.unseen more);
  stays = λ v is. is;
  seen = refl;
  waiting = refl;
}

-- the same by what the code reads
pub walk_follow_read : (adjacency : Adjacency) (old joined : Search) (rest : List Waiting) (here : Waiting) (followed : Followed)
    (v end : ℕ)
    (seen : List Bool) (places targets : List ℕ) → IsWalk adjacency old (rest ++ here ∷ [])
    → v ≡ get_or old.stack.items here.place v → end ≡ get_or adjacency.offsets.items (v + 1) end
    → seen ≡ old.seen.items → places ≡ old.places.items → targets ≡ adjacency.targets.items
    → Follows seen places targets here end followed → joined ≡ record old { parts = joined.parts }
    → Joins old.parts.items joined.parts.items followed.low → HasFollowed adjacency old joined rest here end followed
walk_follow_read adjacency old joined rest here followed v end seen places targets walk v_read end_read seen_is places_is targets_are
    follows same joins =
    let end_is = read_end adjacency old rest here walk v end (vertex_read adjacency old rest here walk v v_read) end_read in
    subst (λ z. HasFollowed adjacency old joined rest here z followed) (sym end_is)
    (subst (λ z. HasFollowed adjacency old z rest here (slice_index adjacency.offsets.items (slice_index old.stack.items here.place + 1))
    followed) (sym same)
    (has_followed adjacency old joined.parts rest here followed walk
    (subst (λ z. Follows old.seen.items old.places.items adjacency.targets.items here z followed) end_is
    (subst (λ z. Follows old.seen.items old.places.items z here end followed) targets_are
    (subst (λ z. Follows old.seen.items z targets here end followed) places_is
    (subst (λ z. Follows z places targets here end followed) seen_is follows))))
    joins))

-- the vertex that was not seen, as the code reads it
pub record HasMet (adjacency : Adjacency) (search : Search) (next t : ℕ) : Type 0 where
  pub in_targets : next < vec_len adjacency.targets
  pub is : t ≡ get_or adjacency.targets.items next t → t ≡ slice_index adjacency.targets.items next
  pub below : t ≡ get_or adjacency.targets.items next t → t < adjacency.vertices
  pub unseen : t ≡ get_or adjacency.targets.items next t → visit_of search t ≡ Unseen

pub has_met : (adjacency : Adjacency) (old joined : Search) (rest : List Waiting) (here : Waiting) (end : ℕ) (followed : Followed) (t : ℕ)
    → HasFollowed adjacency old joined rest here end followed → here.next ≤ followed.next → followed.next < end
    → HasMet adjacency joined followed.next t
has_met adjacency old joined rest here end followed t has begun more =
    let before = subst (λ z. followed.next < z) has.end_is more in
    let within : followed.next < vec_len adjacency.targets =
    omega (arith, end_in adjacency joined rest (at_next here followed) has.walk, before) in
    let t_is : t ≡ get_or adjacency.targets.items followed.next t → t ≡ slice_index adjacency.targets.items followed.next =
    λ read. get_or_read_under adjacency.targets.items followed.next (vec_len adjacency.targets) t 0 read within adjacency.targets.ok.0 in
    record {
      in_targets = within;
      is = t_is;
      below = λ read. subst (λ z. z < adjacency.vertices) (sym (t_is read))
          (target_in adjacency joined rest (at_next here followed) has.walk followed.next (omega arith) before);
      unseen = λ read. ap (visit_of joined) (t_is read) ∙ has.unseen more;
    }

-- the pass goes on at that vertex
pub walk-follows : (adjacency : Adjacency) (old joined new : Search) (rest : List Waiting) (here : Waiting) (end : ℕ) (followed : Followed)
    (there : Waiting) (t : ℕ) → HasFollowed adjacency old joined rest here end followed → here.next ≤ followed.next → followed.next < end
    → t ≡ get_or adjacency.targets.items followed.next t → Enters joined new t → Begins adjacency joined t there
    → IsWalk adjacency new ((rest ++ at_next here followed ∷ []) ++ there ∷ [])
walk-follows adjacency old joined new rest here end followed there t has begun more read enters begins =
    let met = has_met adjacency old joined rest here end followed t has begun more in
    let before = subst (λ z. followed.next < z) has.end_is more in
    walk_enter joined new t enters adjacency (rest ++ at_next here followed ∷ []) there (met.below read) (met.unseen read)
    (λ p last. subst (Reaches (LeadsIn adjacency) (slice_index joined.stack.items p)) (sym (met.is read))
    (last_leads adjacency joined rest (at_next here followed) has.walk followed.next (omega arith) before p last)) begins has.walk

-- all edges of the vertex at the end of the path were followed
module _ (adjacency : Adjacency) (search : Search) (rest : List Waiting) (here : Waiting)
    (walk : IsWalk adjacency search (rest ++ here ∷ []))
    (done : slice_index adjacency.offsets.items (slice_index search.stack.items here.place + 1) ≤ here.next) where
  all_followed : walk.next (slice_index search.stack.items here.place) ≡ slice_index adjacency.offsets.items
      (slice_index search.stack.items here.place + 1)
  all_followed = omega (
    arith,
    done,
    walk.followed.within (slice_index search.stack.items here.place) (vertex_in adjacency search rest here walk),
    next_is adjacency search rest here walk,
  )

  -- there is a last part, and it begins at the end of the path or before
  pub some_part : 0 < vec_len search.parts
  some_part =
      let within : here.place < vec_len search.stack = here_in adjacency search rest here walk in
      let first : Contains search.parts.items 0 = walk.stacked.first (omega arith) in
      let below : first.0 < length search.parts.items = first.1 in omega (arith, search.parts.ok.0)

  -- the last part begins before the end of the path: nothing is closed
  pub walk_retreat : slice_index search.parts.items (vec_len search.parts - 1) ≢ here.place → IsWalk adjacency search rest
  walk_retreat ne =
      let size : ℕ = vec_len search.stack in
      let parts : List ℕ = search.parts.items in
      let count : length parts ≡ (vec_len search.parts - 1) + 1 = (let some : 0 < vec_len search.parts = some_part in
      omega (arith, search.parts.ok.0)) in
      let last_in : Contains parts (slice_index parts (vec_len search.parts - 1)) = Contains-get_or parts (vec_len search.parts - 1) 0
      (omega arith) in
      let not_here : (b : ℕ) → Contains parts b → b ≢ here.place = λ b part is.
      (let low : b ≤ slice_index parts (vec_len search.parts - 1) = rising_last parts
      (vec_len search.parts - 1) b count walk.stacked.parts_rise part in
      let high : slice_index parts (vec_len search.parts - 1) ≤ here.place = parts_below adjacency search rest here walk _ last_in in
      ne (omega arith)) in record {
        seen_count = walk.seen_count;
        places_count = walk.places_count;
        classes_count = walk.classes_count;
        placed = walk.placed;
        chain = walk.chain;
        next = walk.next;
        resumes = λ w on. walk.resumes w (Contains-append_left rest (here ∷ []) w on);
        followed = followed_retreat adjacency.vertices (slice_index adjacency.offsets.items) (slice_index adjacency.targets.items)
            (visit_of search) walk.next (slice_index search.stack.items) size here.place parts (places_of rest) all_followed
            (followed_here adjacency search rest here walk);
        stacked = stacked_retreat size here.place parts (places_of rest) not_here (stacked_here adjacency search rest here walk);
        settled = walk.settled;
      }

  -- an edge from the last part leads into it, or to a closed vertex
  leads_on : Contains search.parts.items here.place → (p b : ℕ) → here.place ≤ p → p < vec_len search.stack
      → LeadsIn adjacency (slice_index search.stack.items p) b → LiesFrom here.place (visit_of search b)
  leads_on part p b above within (e, from, is) =
      let offset : ℕ → ℕ = slice_index adjacency.offsets.items in
      let stack : ℕ → ℕ = slice_index search.stack.items in
      let all : walk.next (stack p) ≡ offset (stack p + 1) =
      ⊎_elim
      (λ on. ⊎_elim (λ waits. let low : p < here.place = rising_below (places_of rest) here.place p
      (stacked_here adjacency search rest here walk).path_rises waits in absurd (omega arith))
      (λ same. subst (λ z. walk.next (stack z) ≡ offset (stack z + 1)) same all_followed)
      (Contains-push_cases (places_of rest) here.place p on))
      (λ h. h) ((followed_here adjacency search rest here walk).whole p within) in
      subst (λ z. LiesFrom here.place (visit_of search z)) is
      (walk.followed.ahead here.place p e part above within from.begun (subst (λ z. e < z) (sym all) from.within))

  -- the last part begins at the end of the path: it is closed
  pub walk_close : (fewer : Vec ℕ) (new : Search) → search.parts.items ≡ fewer.items ++ here.place ∷ []
      → ClosesClass (record search { parts = fewer }) new here.place
      → IsWalk adjacency new rest
  walk_close fewer new parts_are closes =
      let n : ℕ = adjacency.vertices in
      let offset : ℕ → ℕ = slice_index adjacency.offsets.items in
      let target : ℕ → ℕ = slice_index adjacency.targets.items in
      let size : ℕ = vec_len search.stack in
      let stack : ℕ → ℕ = slice_index search.stack.items in
      let shorter : ℕ → ℕ = slice_index new.stack.items in
      let class : ℕ → ℕ = slice_index search.classes.items in
      let after : ℕ → ℕ = slice_index new.classes.items in
      let low_in : here.place < size = here_in adjacency search rest here walk in
      let part : Contains search.parts.items here.place =
      subst (λ z. Contains z here.place) (sym parts_are) (Contains-push fewer.items here.place) in
      let was : (b : ℕ) → Contains fewer.items b → Contains search.parts.items b =
      λ b h. subst (λ z. Contains z b) (sym parts_are) (Contains-append_left fewer.items (here.place ∷ []) b h) in
      let kept : (b : ℕ) → Contains search.parts.items b → b < here.place → Contains fewer.items b =
      λ b h lt. ⊎_elim (λ old. old) (λ is. absurd (omega arith)) (Contains-push_cases fewer.items here.place b (subst
      (λ z. Contains z b) parts_are h)) in
      let same : (p : ℕ) → p < here.place → shorter p ≡ stack p =
      λ p lt. ap (λ z. slice_index z p) closes.stack ∙ get_or-take here.place search.stack.items p 0 lt in
      let size_is : vec_len new.stack ≡ here.place =
      new.stack.ok.0 ∙ ap (length {A = ℕ}) closes.stack ∙ length-take-le here.place search.stack.items (omega (arith, search.stack.ok.0)) in
      let parts_is : new.parts.items ≡ fewer.items = ap (λ z. z.items) closes.parts in record {
        seen_count = ap (λ z. z.len) closes.seen ∙ walk.seen_count;
        places_count = closes.places_count ∙ walk.places_count;
        classes_count = closes.classes_count ∙ walk.classes_count;
        placed = subst (AreOnStack n (visit_of new) shorter) (sym size_is)
            (placed_close n here.place size closes.least (visit_of search)
            (visit_of new) class after stack low_in closes.become walk.placed shorter same);
        chain = subst (λ z. IsStackChain (LeadsIn adjacency) shorter z new.parts.items) (sym size_is)
            (subst (IsStackChain (LeadsIn adjacency) shorter here.place) (sym parts_is)
            (chain_leave (LeadsIn adjacency) stack size search.parts.items walk.chain fewer.items shorter here.place (omega arith) same
            kept));
        next = walk.next;
        resumes = λ w on.
            let below : w.place < here.place = rising_below (places_of rest) here.place w.place
            (stacked_here adjacency search rest here walk).path_rises (place_in rest w on) in
            ap walk.next (same w.place below) ∙ walk.resumes w (Contains-append_left rest (here ∷ []) w on);
        followed = subst (λ z. AreFollowed n offset target (visit_of new) walk.next shorter z new.parts.items (places_of rest))
            (sym size_is)
            (subst (λ z. AreFollowed n offset target (visit_of new) walk.next shorter here.place z (places_of rest)) (sym parts_is)
            (followed_close n here.place size closes.least (visit_of search)
            (visit_of new) class after stack low_in closes.become walk.placed offset target
            walk.next shorter search.parts.items fewer.items (places_of rest) same was (followed_here adjacency search rest here walk)));
        stacked = subst (λ z. AreStacked z new.parts.items (places_of rest)) (sym size_is)
            (subst (λ z. AreStacked here.place z (places_of rest)) (sym parts_is)
            (stacked_close size here.place fewer.items (places_of rest)
            (subst (λ z. AreStacked size z (places_of rest ++ here.place ∷ [])) parts_are (stacked_here adjacency search rest here walk))));
        settled = settled_close (LeadsIn adjacency) n here.place size closes.least (visit_of search)
            (visit_of new) class after stack low_in closes.become
            walk.placed search.parts.items walk.chain (parts_below adjacency search rest here walk) walk.settled (leads_on part)
            (λ a b a_in lead. subst (λ z. z < n) lead.2 (adjacency.listed.vertex a lead.0 a_in lead.1));
      }

-- what is closed was seen
pub close_seen : (old new : Search) (low : ℕ) → ClosesClass old new low → StaySeen old new
close_seen old new low closes v is = ⊎_elim
    (λ stands. let both : Closed ≡ Unseen = sym (closes.become.closed stands.place stands.above stands.below)
    ∙ ap (visit_of new) stands.is ∙ is in
    absurd (let no : ⊥ = cc in no))
    (λ kept. sym kept.0 ∙ is)
    (closes.become.others v)

-- what holds once the vertex at the end left the path
pub record HasFinished (adjacency : Adjacency) (old mid : Search) (rest : List Waiting) : Type 0 where
  pub walk : IsWalk adjacency mid rest
  pub stays : StaySeen old mid
  pub seen : mid.seen ≡ old.seen
  pub waiting : mid.waiting ≡ old.waiting

pub walk_finish : (adjacency : Adjacency) (old mid : Search) (rest : List Waiting) (here : Waiting)
    → IsWalk adjacency old (rest ++ here ∷ [])
    → slice_index adjacency.offsets.items (slice_index old.stack.items here.place + 1) ≤ here.next
    → Finishes old mid here.place → HasFinished adjacency old mid rest
walk_finish adjacency old mid rest here walk done (inl (fewer, parts_are, closes)) = record {
  walk = walk_close adjacency old rest here walk done fewer mid parts_are closes;
  stays = close_seen (record old { parts = fewer }) mid here.place closes;
  seen = closes.seen;
  waiting = closes.waiting;
}
walk_finish adjacency old mid rest here walk done (inr (ne, same)) = record {
  walk = subst (λ z. IsWalk adjacency z rest) (sym same) (walk_retreat adjacency old rest here walk done ne);
  stays = λ v is. sym (ap (λ z. visit_of z v) same) ∙ is;
  seen = ap (λ z. z.seen) same;
  waiting = ap (λ z. z.waiting) same;
}

-- which vertices wait is told by the path
pub walk_waits : (adjacency : Adjacency) (search : Search) (waiting : Vec Waiting) (path longer : List Waiting) → path ≡ longer
    → IsWalk adjacency search path → IsWalk adjacency (record search { waiting = waiting }) longer
walk_waits adjacency search waiting path longer path_is walk =
    let w : IsWalk adjacency search longer = subst (IsWalk adjacency search) path_is walk in
    record {
      seen_count = w.seen_count;
      places_count = w.places_count;
      classes_count = w.classes_count;
      placed = w.placed;
      chain = w.chain;
      next = w.next;
      resumes = w.resumes;
      followed = w.followed;
      stacked = w.stacked;
      settled = w.settled;
    }

-- where no vertex is explored, no vertex is on the stack
pub empty_stack : (adjacency : Adjacency) (search : Search) → IsWalk adjacency search [] → vec_len search.stack ≡ 0
empty_stack adjacency search walk = ⊎_elim
    (λ some. let on : Contains [] 0 = walk.stacked.on_path 0 (walk.stacked.first some) in
    let none : on.0 < 0 = on.1 in absurd (omega arith))
    (λ none. omega arith)
    (cases_lt 0 (vec_len search.stack))

-- no vertex was seen
pub walk_none : (adjacency : Adjacency) (search : Search) → vec_len search.seen ≡ adjacency.vertices
    → vec_len search.places ≡ adjacency.vertices → vec_len search.classes ≡ adjacency.vertices → vec_len search.stack ≡ 0
    → search.parts.items ≡ [] → ((v : ℕ) → slice_index_or search.seen.items v false ≡ false) → IsWalk adjacency search []
walk_none adjacency search seen_count places_count classes_count none parts_none unseen = record {
  seen_count = seen_count;
  places_count = places_count;
  classes_count = classes_count;
  placed = record {
    found = λ v place v_in is. absurd (not_open v place is);
    vertex = λ place within. absurd (omega (arith, none, within));
    visited = λ place within. absurd (omega (arith, none, within));
  };
  chain = record { on = λ place within. absurd (omega (arith, none, within)); back = λ place within. absurd (omega (arith, none, within)) };
  next = slice_index adjacency.offsets.items;
  resumes = λ w on. absurd (let no : on.0 < 0 = on.1 in omega arith);
  followed = record {
    begun = λ v v_in. omega arith;
    within = λ v v_in. adjacency.listed.rise v v_in;
    fresh = λ v v_in is. refl;
    ahead = λ b place e part le within from upto. absurd (omega (arith, none, within));
    whole = λ place within. absurd (omega (arith, none, within));
  };
  stacked = record {
    parts_rise = λ i j lt within. absurd (no_part j within);
    path_rises = λ i j lt within. absurd (omega arith);
    below = λ place on. absurd (let no : on.0 < 0 = on.1 in omega arith);
    on_path = λ b part. absurd (no_part part.0 part.1);
    first = λ some. absurd (omega (arith, none, some));
  };
  settled = record {
    closed = λ a b a_in is edge. absurd (not_closed a is);
    same = λ a b a_in b_in a_is b_is. absurd (not_closed a a_is);
    vertex = λ a a_in is. absurd (not_closed a is);
    member = λ a a_in is. absurd (not_closed a is);
    number = λ a a_in is. absurd (not_closed a is);
    least = λ a b a_in b_in a_is b_is. absurd (not_closed a a_is);
  };
}
  where
    none_seen : (v : ℕ) → visit_of search v ≡ Unseen
    none_seen v = visit_unseen _ _ (unseen v)

    not_open : (v place : ℕ) → visit_of search v ≡ Open place → ⊥
    not_open v place is = let both : Unseen ≡ Open place = sym (none_seen v) ∙ is in cc

    not_closed : (v : ℕ) → visit_of search v ≡ Closed → ⊥
    not_closed v is = let both : Unseen ≡ Closed = sym (none_seen v) ∙ is in cc

    no_part : (k : ℕ) → k < length search.parts.items → ⊥
    no_part k within = omega (arith, ap (length {A = ℕ}) parts_none)

-- the first vertex that is explored
pub walk_root : (adjacency : Adjacency) (old new : Search) (root : ℕ) (there : Waiting) → IsWalk adjacency old []
    → root < adjacency.vertices
    → visit_of old root ≡ Unseen → Enters old new root → Begins adjacency old root there → new.waiting.items ≡ []
    → IsWalk adjacency new (new.waiting.items ++ there ∷ [])
walk_root adjacency old new root there walk root_in unseen enters begins idle =
    let none : vec_len old.stack ≡ 0 = empty_stack adjacency old walk in
    subst (λ z. IsWalk adjacency new (z ++ there ∷ [])) (sym idle)
    (walk_enter old new root enters adjacency [] there root_in unseen (λ p last. absurd (omega arith)) begins walk)

pub enter_found : (old new : Search) (v : ℕ) → Enters old new v → visit_of new v ≢ Unseen
enter_found old new v enters is = let both : Open (vec_len old.stack) ≡ Unseen = sym enters.opened ∙ is in cc
