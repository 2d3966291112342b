-- What holds of places, edges and stacks is kept by each step of the pass.
use Rattle.std.proofs.Common.{◌≡◌, ◌≢◌, ℕ, ◌+◌, ◌<◌, ◌≤◌, inl, inr, List, [], ◌∷◌, ◌++◌, Contains, ⊎_elim, subst, sym, ◌∙◌, ap, arith}
use Rattle.std.proofs.lemmas.Bool.{cases_lt, cases_eq}
use Rattle.std.proofs.lemmas.List.Elements.{Contains-append_left, Contains-push, Contains-push_cases}
use Rattle.cox_scc.specs.Visits.{Visit, Unseen, Open, Closed}
use Rattle.cox_scc.specs.Walk.{IsIncreasing, AreOnStack, AreFollowed, AreStacked, AreSettled, LiesFrom}
use Rattle.cox_scc.proofs.Stacks.{rising_rest, increasing-push}
use Rattle.cox_scc.proofs.VisitedVertices.{lies_lower}

-- a vertex stands at one place of the stack
pub same_place : (n : ℕ) (visit : ℕ → Visit) (stack : ℕ → ℕ) (size : ℕ) → AreOnStack n visit stack size → (p q : ℕ) → p < size → q < size
    → stack p ≡ stack q → p ≡ q
same_place n visit stack size placed p q p_in q_in is =
    let both : Open p ≡ Open q = sym (placed.visited p p_in) ∙ ap visit is ∙ placed.visited q q_in in cc

-- a vertex comes onto the stack
module _ (n size v : ℕ) (visit later : ℕ → Visit) (stack taller : ℕ → ℕ)
    (now_open : later v ≡ Open size) (others : (w : ℕ) → w ≢ v → later w ≡ visit w)
    (top : taller size ≡ v) (same : (p : ℕ) → p < size → taller p ≡ stack p) (unseen : visit v ≡ Unseen) where
  pub placed_enter : v < n → AreOnStack n visit stack size → AreOnStack n later taller (size + 1)
  placed_enter v_in placed = record {
    found = λ w p w_in is. ⊎_elim
        (λ e. let place_is : Open p ≡ Open size = sym is ∙ ap later e ∙ now_open in
        let p_is : p ≡ size = cc in
        (omega arith, ap taller p_is ∙ top ∙ sym e))
        (λ ne. let old = placed.found w p w_in (sym (others w ne) ∙ is) in
        let below : p < size = old.0 in (omega arith, same p below ∙ old.1))
        (cases_eq w v);
    vertex = λ p within. ⊎_elim
        (λ lt. subst (λ z. z < n) (sym (same p lt)) (placed.vertex p lt))
        (λ ge. let e : p ≡ size = omega arith in subst (λ z. z < n) (sym (ap taller e ∙ top)) v_in)
        (cases_lt p size);
    visited = λ p within. ⊎_elim
        (λ lt. let open_then : visit (stack p) ≡ Open p = placed.visited p lt in
        let ne : stack p ≢ v = λ e. let both : Open p ≡ Unseen = sym open_then ∙ ap visit e ∙ unseen in cc in
        ap later (same p lt) ∙ others (stack p) ne ∙ open_then)
        (λ ge. let e : p ≡ size = omega arith in ap (λ q. later (taller q)) e ∙ ap later top ∙ now_open ∙ ap Open (sym e))
        (cases_lt p size);
  }

  -- what lay at a place or above, or was closed, still does
  lies_still : (b w : ℕ) → b ≤ size → LiesFrom b (visit w) → LiesFrom b (later w)
  lies_still b w le lies = ⊎_elim
      (λ e. subst (LiesFrom b) (sym (ap later e ∙ now_open)) le)
      (λ ne. subst (LiesFrom b) (sym (others w ne)) lies)
      (cases_eq w v)

  pub followed_enter : (offset target next : ℕ → ℕ) (parts path : List ℕ) → v < n → ((b : ℕ) → Contains parts b → b < size)
      → AreFollowed n offset target visit next stack size parts path
      → AreFollowed n offset target later next taller (size + 1) (parts ++ size ∷ []) (path ++ size ∷ [])
  followed_enter offset target next parts path v_in parts_in followed = record {
    begun = followed.begun;
    within = followed.within;
    fresh = λ w w_in is. ⊎_elim
        (λ e. let both : Open size ≡ Unseen = sym now_open ∙ ap later (sym e) ∙ is in absurd (let no : ⊥ = cc in no))
        (λ ne. followed.fresh w w_in (sym (others w ne) ∙ is))
        (cases_eq w v);
    ahead = λ b p e part le within from upto. ⊎_elim
        (λ lt. ⊎_elim
        (λ old. lies_still b (target e) (omega (arith, parts_in b old))
        (followed.ahead b p e old le lt (subst (λ z. offset z ≤ e) (same p lt) from) (subst (λ z. e < next z) (same p lt) upto)))
        (λ is. absurd (omega arith))
        (Contains-push_cases parts size b part))
        (λ ge. let p_is : p ≡ size = omega arith in
        let v_is : taller p ≡ v = ap taller p_is ∙ top in
        let low : offset v ≤ e = subst (λ z. offset z ≤ e) v_is from in
        let high : e < next v = subst (λ z. e < next z) v_is upto in
        let none : next v ≡ offset v = followed.fresh v v_in unseen in
        absurd (omega arith))
        (cases_lt p size);
    whole = λ p within. ⊎_elim
        (λ lt. ⊎_elim (λ on. inl (Contains-append_left path (size ∷ []) p on))
        (λ all. inr (subst (λ z. next z ≡ offset (z + 1)) (sym (same p lt)) all)) (followed.whole p lt))
        (λ ge. let p_is : p ≡ size = omega arith in inl (subst (Contains (path ++ size ∷ [])) (sym p_is) (Contains-push path size)))
        (cases_lt p size);
  }

  pub settled_enter : (IsEdge : ℕ → ℕ → Type 0) (class : ℕ → ℕ) → AreSettled IsEdge n visit class → AreSettled IsEdge n later class
  settled_enter IsEdge class settled = record {
    closed = λ a b a_in is edge. after b (settled.closed a b a_in (before a is) edge);
    same = λ a b a_in b_in a_is b_is. settled.same a b a_in b_in (before a a_is) (before b b_is);
    vertex = λ a a_in is. settled.vertex a a_in (before a is);
    member = λ a a_in is. after (class a) (settled.member a a_in (before a is));
    number = λ a a_in is. settled.number a a_in (before a is);
    least = λ a b a_in b_in a_is b_is. settled.least a b a_in b_in (before a a_is) (before b b_is);
  }
    where
      before : (w : ℕ) → later w ≡ Closed → visit w ≡ Closed
      before w is = ⊎_elim
          (λ e. let both : Open size ≡ Closed = sym now_open ∙ ap later (sym e) ∙ is in cc)
          (λ ne. sym (others w ne) ∙ is)
          (cases_eq w v)

      after : (w : ℕ) → visit w ≡ Closed → later w ≡ Closed
      after w is = ⊎_elim
          (λ e. let both : Unseen ≡ Closed = sym unseen ∙ ap visit (sym e) ∙ is in cc)
          (λ ne. others w ne ∙ is)
          (cases_eq w v)

-- a part of its own at the top of the stack, which the path goes on to
pub stacked_enter : (size : ℕ) (parts path : List ℕ) → AreStacked size parts path
    → AreStacked (size + 1) (parts ++ size ∷ []) (path ++ size ∷ [])
stacked_enter size parts path stacked = record {
  parts_rise = increasing-push parts size stacked.parts_rise (λ b part. stacked.below b (stacked.on_path b part));
  path_rises = increasing-push path size stacked.path_rises stacked.below;
  below = λ p on. ⊎_elim (λ old. omega (arith, stacked.below p old)) (λ is. omega arith) (Contains-push_cases path size p on);
  on_path = λ b part. ⊎_elim (λ old. Contains-append_left path (size ∷ []) b (stacked.on_path b old))
      (λ is. subst (Contains (path ++ size ∷ [])) is (Contains-push path size)) (Contains-push_cases parts size b part);
  first = λ some. ⊎_elim (λ positive. Contains-append_left parts (size ∷ []) 0 (stacked.first positive))
      (λ none. let is : size ≡ 0 = omega arith in subst (Contains (parts ++ size ∷ [])) is (Contains-push parts size)) (cases_lt 0 size);
}

-- no part begins above `low` any more
pub stacked_join : (size low : ℕ) (parts fewer path : List ℕ) → IsIncreasing fewer → ((b : ℕ) → Contains fewer b → Contains parts b)
    → ((b : ℕ) → Contains parts b → b ≤ low → Contains fewer b) → AreStacked size parts path → AreStacked size fewer path
stacked_join size low parts fewer path rise was kept stacked = record {
  parts_rise = rise;
  path_rises = stacked.path_rises;
  below = stacked.below;
  on_path = λ b part. stacked.on_path b (was b part);
  first = λ some. kept 0 (stacked.first some) (omega arith);
}

-- edges of the vertex at `here`, which is at the end of the path, were followed up to another one, to vertices that lie at `low` or above,
-- and the parts were joined down to there
pub followed_advance : (n : ℕ) (offset target : ℕ → ℕ) (visit : ℕ → Visit) (next later stack : ℕ → ℕ) (size here low : ℕ)
    (parts fewer path : List ℕ)
    → next (stack here) ≤ later (stack here) → ((v : ℕ) → v ≢ stack here → later v ≡ next v) → here < size → Contains path here
    → later (stack here) ≤ offset (stack here + 1)
    → ((e : ℕ) → next (stack here) ≤ e → e < later (stack here) → LiesFrom low (visit (target e)))
    → ((b : ℕ) → Contains fewer b → Contains parts b × (b ≤ low))
    → AreOnStack n visit stack size
    → AreFollowed n offset target visit next stack size parts path → AreFollowed n offset target visit later stack size fewer path
followed_advance n offset target visit next later stack size here low parts fewer path more others here_in on_path upto lies was placed
    followed =
    record {
      begun = λ v v_in. ⊎_elim
          (λ e. let old : offset v ≤ next v = followed.begun v v_in in
          subst (λ z. offset z ≤ later z) (sym e) (
          let old_here : offset (stack here) ≤ next (stack here) = subst (λ z. offset z ≤ next z) e old in
          omega arith))
          (λ ne. subst (λ z. offset v ≤ z) (sym (others v ne)) (followed.begun v v_in)) (cases_eq v (stack here));
      within = λ v v_in. ⊎_elim
          (λ e. subst (λ z. later z ≤ offset (z + 1)) (sym e) upto)
          (λ ne. subst (λ z. z ≤ offset (v + 1)) (sym (others v ne)) (followed.within v v_in)) (cases_eq v (stack here));
      fresh = λ v v_in is. ⊎_elim
          (λ e. let both : Open here ≡ Unseen = sym (placed.visited here here_in) ∙ ap visit (sym e) ∙ is in absurd (let no : ⊥ = cc in no))
          (λ ne. others v ne ∙ followed.fresh v v_in is) (cases_eq v (stack here));
      ahead = λ b p e part le within from before. ⊎_elim
          (λ is. ⊎_elim
          (λ lt. followed.ahead b p e (was b part).0 le within from (subst (λ z. e < next z) (sym is) lt))
          (λ ge. lies_lower low b (visit (target e)) (was b part).1 (lies e ge (subst (λ z. e < later z) is before)))
          (cases_lt e (next (stack here))))
          (λ ne. followed.ahead b p e (was b part).0 le within from (subst (λ z. e < z) (others (stack p) ne) before))
          (cases_eq (stack p) (stack here));
      whole = λ p within. ⊎_elim
          (λ is. inl (subst (Contains path) (sym (same_place n visit stack size placed p here within here_in is)) on_path))
          (λ ne. ⊎_elim (λ on. inl on) (λ all. inr (others (stack p) ne ∙ all)) (followed.whole p within))
          (cases_eq (stack p) (stack here));
    }

-- all edges of the vertex at `here` were followed, and it leaves the path
pub followed_retreat : (n : ℕ) (offset target : ℕ → ℕ) (visit : ℕ → Visit) (next stack : ℕ → ℕ) (size here : ℕ) (parts rest : List ℕ)
    → next (stack here) ≡ offset (stack here + 1)
    → AreFollowed n offset target visit next stack size parts (rest ++ here ∷ [])
    → AreFollowed n offset target visit next stack size parts rest
followed_retreat n offset target visit next stack size here parts rest all followed = record {
  begun = followed.begun;
  within = followed.within;
  fresh = followed.fresh;
  ahead = followed.ahead;
  whole = λ p within. ⊎_elim
      (λ on. ⊎_elim (λ waits. inl waits) (λ is. inr (subst (λ z. next (stack z) ≡ offset (stack z + 1)) is all))
      (Contains-push_cases rest here p on))
      (λ old. inr old) (followed.whole p within);
}

pub stacked_retreat : (size here : ℕ) (parts rest : List ℕ) → ((b : ℕ) → Contains parts b → b ≢ here)
    → AreStacked size parts (rest ++ here ∷ []) → AreStacked size parts rest
stacked_retreat size here parts rest ne stacked = record {
  parts_rise = stacked.parts_rise;
  path_rises = rising_rest rest here stacked.path_rises;
  below = λ p on. stacked.below p (Contains-append_left rest (here ∷ []) p on);
  on_path = λ b part. ⊎_elim (λ waits. waits) (λ is. absurd (ne b part (sym is))) (Contains-push_cases rest here b
      (stacked.on_path b part));
  first = stacked.first;
}
