-- The last part of the stack becomes a class.
use Rattle.std.proofs.Common.{◌≡◌, ◌≢◌, ℕ, ◌+◌, ◌<◌, ◌≤◌, ◌⊎◌, ◌↔◌, inl, inr, Bool, true, false, List, [], ◌∷◌, ◌++◌, Contains, ⊎_elim}
use Rattle.std.proofs.Common.{subst, sym, refl, ◌∙◌, ap, arith, ◌-◌, length, take, drop, slice_index, slice_index_or}
use Rattle.std.proofs.lemmas.Bool.{cases_lt}
use Rattle.std.proofs.lemmas.List.{take_rest, get_or-drop, get_or_default, length-drop}
use Rattle.std.proofs.lemmas.List.Elements.{Contains-append_left, Contains-push, Contains-push_cases}
use Rattle.cox_scc.specs.Visits.{Visit, Unseen, Open, Closed, nowhere, visit_by}
use Rattle.cox_scc.specs.Reach.{Reaches, ReachEachOther}
use Rattle.cox_scc.specs.Walk.{AreOnStack, AreFollowed, AreStacked, AreSettled, IsStackChain, LiesFrom, Stands, BecomeClass, CloseMembers}
use Rattle.cox_scc.proofs.Stacks.{rising_below, rising_rest}
use Rattle.cox_scc.proofs.Reaching.{Reaches-join, Reaches-keeps}
use Rattle.cox_scc.proofs.StackedVertices.{chain_up, chain_down}

module _ (n low size least : ℕ) (visit later : ℕ → Visit) (class after stack : ℕ → ℕ) (low_in : low < size)
    (become : BecomeClass stack low size least visit later class after) (placed : AreOnStack n visit stack size) where
  -- what was closed still is, with its number
  stay_closed : (v : ℕ) → visit v ≡ Closed → (later v ≡ Closed) × (after v ≡ class v)
  stay_closed v is = ⊎_elim
      (λ stands. let both : Open stands.place ≡ Closed = sym (placed.visited stands.place stands.below) ∙ ap visit stands.is ∙ is in
      absurd (let no : ⊥ = cc in no))
      (λ kept. (kept.0 ∙ is, kept.1))
      (become.others v)

  -- a vertex that is closed now stood in the part, or was closed with its number
  closed_cases : (v : ℕ) → later v ≡ Closed → Stands stack low size v ⊎ ((visit v ≡ Closed) × (after v ≡ class v))
  closed_cases v is = ⊎_elim (λ stands. inl stands) (λ kept. inr (sym kept.0 ∙ is, kept.1)) (become.others v)

  pub placed_close : (shorter : ℕ → ℕ) → ((p : ℕ) → p < low → shorter p ≡ stack p) → AreOnStack n later shorter low
  placed_close shorter same = record {
    found = λ v p v_in is. ⊎_elim
        (λ stands. let both : Closed ≡ Open p = sym (become.closed stands.place stands.above stands.below) ∙ ap later stands.is ∙ is in
        absurd (let no : ⊥ = cc in no))
        (λ kept. let old = placed.found v p v_in (sym kept.0 ∙ is) in
        ⊎_elim
        (λ lt. (lt, same p lt ∙ old.1))
        (λ ge. let both : Closed ≡ Open p = sym (become.closed p ge old.0) ∙ ap later old.1 ∙ is in absurd (let no : ⊥ = cc in no))
        (cases_lt p low))
        (become.others v);
    vertex = λ p within. subst (λ z. z < n) (sym (same p within)) (placed.vertex p (omega arith));
    visited = λ p within. ap later (same p within) ∙ still_open p within;
  }
    where
      still_open : (p : ℕ) → p < low → later (stack p) ≡ Open p
      still_open p within = ⊎_elim
          (λ stands. let both : Open stands.place ≡ Open p =
          sym (placed.visited stands.place stands.below) ∙ ap visit stands.is ∙ placed.visited p (omega arith) in
          let is : stands.place ≡ p = cc in
          let above : low ≤ stands.place = stands.above in absurd (omega arith))
          (λ kept. kept.0 ∙ placed.visited p (omega arith))
          (become.others (stack p))

  pub followed_close : (offset target next shorter : ℕ → ℕ) (parts rest_parts rest : List ℕ) → ((p : ℕ) → p < low → shorter p ≡ stack p)
      → ((b : ℕ) → Contains rest_parts b → Contains parts b)
      → AreFollowed n offset target visit next stack size parts (rest ++ low ∷ [])
      → AreFollowed n offset target later next shorter low rest_parts rest
  followed_close offset target next shorter parts rest_parts rest same was followed = record {
    begun = followed.begun;
    within = followed.within;
    fresh = λ v v_in is. ⊎_elim
        (λ stands. let both : Closed ≡ Unseen = sym (become.closed stands.place stands.above stands.below) ∙ ap later stands.is ∙ is in
        absurd (let no : ⊥ = cc in no))
        (λ kept. followed.fresh v v_in (sym kept.0 ∙ is))
        (become.others v);
    ahead = λ b p e part le within from upto. lies_still b (target e)
        (followed.ahead b p e (was b part) le (omega arith) (subst (λ z. offset z ≤ e) (same p within) from)
        (subst (λ z. e < next z) (same p within) upto));
    whole = λ p within. ⊎_elim
        (λ on. ⊎_elim (λ waits. inl waits) (λ is. absurd (omega arith)) (Contains-push_cases rest low p on))
        (λ all. inr (subst (λ z. next z ≡ offset (z + 1)) (sym (same p within)) all))
        (followed.whole p (omega arith));
  }
    where
      lies_still : (b v : ℕ) → LiesFrom b (visit v) → LiesFrom b (later v)
      lies_still b v lies = ⊎_elim
          (λ stands. let is : later v ≡ Closed = sym (ap later stands.is) ∙ become.closed stands.place stands.above stands.below in
          subst (LiesFrom b) (sym is) tt)
          (λ kept. subst (LiesFrom b) (sym kept.0) lies)
          (become.others v)

  -- no edge leads out of the closed vertices
  closed_edges : (IsEdge : ℕ → ℕ → Type 0) → ((a b : ℕ) → a < n → visit a ≡ Closed → IsEdge a b → visit b ≡ Closed)
      → ((p b : ℕ) → low ≤ p → p < size → IsEdge (stack p) b → LiesFrom low (visit b)) → ((a b : ℕ) → a < n → IsEdge a b → b < n)
      → (a b : ℕ) → a < n → later a ≡ Closed → IsEdge a b → later b ≡ Closed
  closed_edges IsEdge closed ahead in_range a b a_in is edge = ⊎_elim
      (λ stands. by_visit (visit b) refl (in_range a b a_in edge)
      (ahead stands.place b stands.above stands.below (subst (λ z. IsEdge z b) (sym stands.is) edge)))
      (λ kept. (stay_closed b (closed a b a_in kept.0 edge)).0)
      (closed_cases a is)
    where
      by_visit : (x : Visit) → visit b ≡ x → b < n → LiesFrom low x → later b ≡ Closed
      by_visit Unseen is_x b_in lies = absurd lies
      by_visit (Open p) is_x b_in lies =
          let old = placed.found b p b_in is_x in sym (ap later old.1) ∙ become.closed p lies old.0
      by_visit Closed is_x b_in lies = (stay_closed b is_x).0

pub stacked_close : (size low : ℕ) (rest_parts rest : List ℕ) → AreStacked size (rest_parts ++ low ∷ []) (rest ++ low ∷ [])
    → AreStacked low rest_parts rest
stacked_close size low rest_parts rest stacked = record {
  parts_rise = rising_rest rest_parts low stacked.parts_rise;
  path_rises = rising_rest rest low stacked.path_rises;
  below = λ p on. rising_below rest low p stacked.path_rises on;
  on_path = λ b part. let lt : b < low = rising_below rest_parts low b stacked.parts_rise part in
      ⊎_elim (λ waits. waits) (λ is. absurd (omega arith))
      (Contains-push_cases rest low b (stacked.on_path b (Contains-append_left rest_parts (low ∷ []) b part)));
  first = λ some. ⊎_elim (λ part. part) (λ is. absurd (omega arith))
      (Contains-push_cases rest_parts low 0 (stacked.first (let in' : low < size = stacked.below low (Contains-push rest low) in
      omega arith)));
}

-- the part was a class of vertices that reach each other, and no edge leads out of it but to closed vertices
module _ (IsEdge : ℕ → ℕ → Type 0) (n low size least : ℕ) (visit later : ℕ → Visit) (class after stack : ℕ → ℕ) (low_in : low < size)
    (become : BecomeClass stack low size least visit later class after) (placed : AreOnStack n visit stack size)
    (parts : List ℕ) (chain : IsStackChain IsEdge stack size parts) (last : (b : ℕ) → Contains parts b → b ≤ low)
    (settled : AreSettled IsEdge n visit class)
    (ahead : (p b : ℕ) → low ≤ p → p < size → IsEdge (stack p) b → LiesFrom low (visit b))
    (in_range : (a b : ℕ) → a < n → IsEdge a b → b < n) where
  together : (p q : ℕ) → low ≤ p → p < size → low ≤ q → q < size → Reaches IsEdge (stack p) (stack q)
  together p q p_up p_in q_up q_in =
      Reaches-join (chain_down IsEdge stack size parts chain low p last p_up p_in) (chain_up IsEdge stack size parts chain low q q_up q_in)

  members_meet : (a b : ℕ) → Stands stack low size a → Stands stack low size b → Reaches IsEdge a b
  members_meet a b sa sb = subst (λ z. Reaches IsEdge z b) sa.is
      (subst (λ z. Reaches IsEdge (stack sa.place) z) sb.is (together sa.place sb.place sa.above sa.below sb.above sb.below))

  -- what was closed reaches only what was closed
  closed_reach : (a b : ℕ) → a < n → visit a ≡ Closed → Reaches IsEdge a b → visit b ≡ Closed
  closed_reach a b a_in is reaches = (Reaches-keeps {IsEdge = IsEdge} (λ v. (v < n) × (visit v ≡ Closed))
      (λ x y fact edge. (in_range x y fact.0 edge, settled.closed x y fact.0 fact.1 edge)) reaches (a_in, is)).1

  member_open : (a : ℕ) → Stands stack low size a → visit a ≢ Closed
  member_open a stands is =
      let both : Open stands.place ≡ Closed = sym (placed.visited stands.place stands.below) ∙ ap visit stands.is ∙ is in cc

  member_number : (a : ℕ) → Stands stack low size a → after a ≡ least
  member_number a stands = sym (ap after stands.is) ∙ become.number stands.place stands.above stands.below

  -- the number of the new class is none of an old one
  other_number : (b : ℕ) → b < n → visit b ≡ Closed → class b ≢ least
  other_number b b_in is e = member_open least become.member (subst (λ z. visit z ≡ Closed) e (settled.member b b_in is))

  least_closed : later least ≡ Closed
  least_closed = sym (ap later become.member.is) ∙ become.closed become.member.place become.member.above become.member.below

  pub settled_close : AreSettled IsEdge n later after
  settled_close = record {
    closed = closed_edges n low size least visit later class after stack low_in become placed IsEdge settled.closed ahead in_range;
    same = λ a b a_in b_in a_is b_is. both_cases a b a_in b_in (cases a a_is) (cases b b_is);
    vertex = λ a a_in is. ⊎_elim
        (λ stands. subst (λ z. z < n) (sym (member_number a stands)) least_in)
        (λ kept. subst (λ z. z < n) (sym kept.1) (settled.vertex a a_in kept.0))
        (cases a is);
    member = λ a a_in is. ⊎_elim
        (λ stands. subst (λ z. later z ≡ Closed) (sym (member_number a stands)) least_closed)
        (λ kept. subst (λ z. later z ≡ Closed) (sym kept.1) (keep (class a) (settled.member a a_in kept.0)).0)
        (cases a is);
    number = λ a a_in is. ⊎_elim
        (λ stands. subst (λ z. after z ≡ z) (sym (member_number a stands)) (member_number least become.member))
        (λ kept. subst (λ z. after z ≡ z) (sym kept.1)
        ((keep (class a) (settled.member a a_in kept.0)).1 ∙ settled.number a a_in kept.0))
        (cases a is);
    least = λ a b a_in b_in a_is b_is e. least_cases a b a_in b_in (cases a a_is) (cases b b_is) e;
  }
    where
      cases : (v : ℕ) → later v ≡ Closed → Stands stack low size v ⊎ ((visit v ≡ Closed) × (after v ≡ class v))
      cases = closed_cases n low size least visit later class after stack low_in become placed

      keep : (v : ℕ) → visit v ≡ Closed → (later v ≡ Closed) × (after v ≡ class v)
      keep = stay_closed n low size least visit later class after stack low_in become placed

      least_in : least < n
      least_in = subst (λ z. z < n) become.member.is (placed.vertex become.member.place become.member.below)

      both_cases : (a b : ℕ) → a < n → b < n → Stands stack low size a ⊎ ((visit a ≡ Closed) × (after a ≡ class a))
          → Stands stack low size b ⊎ ((visit b ≡ Closed) × (after b ≡ class b)) → (after a ≡ after b) ↔ ReachEachOther IsEdge a b
      both_cases a b a_in b_in (inl sa) (inl sb) =
          (λ e. (members_meet a b sa sb, members_meet b a sb sa), λ r. member_number a sa ∙ sym (member_number b sb))
      both_cases a b a_in b_in (inl sa) (inr kb) = (
        λ e. absurd (other_number b b_in kb.0 (sym kb.1 ∙ sym e ∙ member_number a sa)),
        λ r. absurd (member_open a sa (closed_reach b a b_in kb.0 r.1)),
      )
      both_cases a b a_in b_in (inr ka) (inl sb) = (
        λ e. absurd (other_number a a_in ka.0 (sym ka.1 ∙ e ∙ member_number b sb)),
        λ r. absurd (member_open b sb (closed_reach a b a_in ka.0 r.0)),
      )
      both_cases a b a_in b_in (inr ka) (inr kb) =
          let old = settled.same a b a_in b_in ka.0 kb.0 in
          (λ e. old.0 (sym ka.1 ∙ e ∙ kb.1), λ r. ka.1 ∙ old.1 r ∙ sym kb.1)

      least_cases : (a b : ℕ) → a < n → b < n → Stands stack low size a ⊎ ((visit a ≡ Closed) × (after a ≡ class a))
          → Stands stack low size b ⊎ ((visit b ≡ Closed) × (after b ≡ class b)) → after b ≡ after a → after a ≤ b
      least_cases a b a_in b_in (inl sa) (inl sb) e =
          let low_b : least ≤ stack sb.place = become.least_is sb.place sb.above sb.below in
          let is_b : stack sb.place ≡ b = sb.is in
          omega (arith, member_number a sa)
      least_cases a b a_in b_in (inl sa) (inr kb) e = absurd (other_number b b_in kb.0 (sym kb.1 ∙ e ∙ member_number a sa))
      least_cases a b a_in b_in (inr ka) (inl sb) e = absurd (other_number a a_in ka.0 (sym ka.1 ∙ sym e ∙ member_number b sb))
      least_cases a b a_in b_in (inr ka) (inr kb) e =
          let old : class a ≤ b = settled.least a b a_in b_in ka.0 kb.0 (sym kb.1 ∙ e ∙ ka.1) in omega (arith, ka.1)

-- the slice of the stack from `low` on, as the code has it
pub slice_is : (slice stack : List ℕ) (low : ℕ) → slice ≡ stack → take (length slice - low) (drop low slice) ≡ drop low stack
slice_is slice stack low is = take_rest slice low ∙ ap (drop low) is

-- closing the members of that slice, which were seen, makes a class of them
pub become_class : (stack members others : List ℕ) (low size least : ℕ) (seen : List Bool) (places later classes after : List ℕ)
    → size ≡ length stack → low ≤ size → members ≡ drop low stack → others ≡ drop low stack → Contains others least
    → ((k : ℕ) → k < length others → least ≤ slice_index others k)
    → ((p : ℕ) → p < size → slice_index_or seen (slice_index stack p) false ≡ true)
    → CloseMembers members least places later classes after
    → BecomeClass (slice_index stack) low size least (λ v. visit_by (slice_index_or seen v false) (slice_index places v))
    (λ v. visit_by (slice_index_or seen v false) (slice_index later v)) (slice_index classes) (slice_index after)
become_class stack members others low size least seen places later classes after size_is low_le members_are others_are found low_bound
    were_seen close =
    record {
      closed = λ p above below. ap (λ z. visit_by z (slice_index later (slice_index stack p))) (were_seen p below)
          ∙ ap (visit_by true) (subst (λ z. slice_index later z ≡ nowhere) (at members members_are p above)
          (close.closed (p - low) (within members members_are p above below)));
      number = λ p above below. subst (λ z. slice_index after z ≡ least) (at members members_are p above)
          (close.number (p - low) (within members members_are p above below));
      others = λ v. ⊎_elim (λ is. inl (stands members members_are v is))
          (λ kept. inr (ap (visit_by (slice_index_or seen v false)) kept.0, kept.1)) (close.others v);
      member = stands others others_are least found;
      least_is = λ p above below. subst (λ z. least ≤ z) (at others others_are p above) (low_bound (p - low)
          (within others others_are p above below));
    }
  where
    at : (xs : List ℕ) → xs ≡ drop low stack → (p : ℕ) → low ≤ p → slice_index xs (p - low) ≡ slice_index stack p
    at xs are p above =
        let there : low + (p - low) ≡ p = omega arith in
        ap (λ z. slice_index z (p - low)) are ∙ get_or-drop low stack (p - low) 0 ∙ ap (slice_index stack) there

    count : (xs : List ℕ) → xs ≡ drop low stack → length xs ≡ size - low
    count xs are = ap (length {A = ℕ}) are ∙ length-drop low stack ∙ ap (λ z. z - low) (sym size_is)

    within : (xs : List ℕ) → xs ≡ drop low stack → (p : ℕ) → low ≤ p → p < size → p - low < length xs
    within xs are p above below = omega (arith, count xs are)

    stands : (xs : List ℕ) → xs ≡ drop low stack → (v : ℕ) → Contains xs v → Stands (slice_index stack) low size v
    stands xs are v (k, lt, is) = record {
      place = low + k;
      above = omega arith;
      below = omega (arith, count xs are);
      is = sym (get_or-drop low stack k 0) ∙ ap (λ z. slice_index z k) (sym are) ∙ get_or_default xs k 0 v lt ∙ is;
    }
