-- The laws of every list of events, each by what one event can change and by induction on the list.
use Rattle.std.proofs.Common.{◌≡◌, ◌≢◌, ℕ, Bool, true, false, cond, Option, Some, None, ◌⊎◌, ⊎_elim, inl, inr, List, [], ◌∷◌}
use Rattle.std.proofs.Common.{◌++◌, Contains, refl, sym, ap, subst, ◌∙◌, arith}
use Rattle.std.proofs.lemmas.Bool.{false_from_ne_true, cond-false}
use Rattle.std.proofs.lemmas.Bool.Decides.{nat_tests}
use Rattle.cox_fill_core.specs.declared.event.RowState.{RowState}
use Rattle.cox_fill_core.specs.declared.event.Event.{Event}
use Rattle.cox_fill_core.specs.declared.event.Reply.{Reply}
use Rattle.cox_fill_core.specs.Fill.{Fill, put_at, is_published, opening_core, noticed, missing, publish_reply, after, reply, after_all}
use Rattle.cox_fill_core.specs.Good.{IsGood}
use Rattle.cox_fill_core.specs.Laws.{HappenedFrom, reached, KeepsGood, StaysGood, MissesLeast, IsWonOnce, IsMadeByWinner}
use Rattle.cox_fill_core.specs.Laws.{IsForGood, IsPublishedForGood, IsVoidForGood, SeenStays}
use Rattle.cox_fill_core.proofs.Points.{put_here, put_cases}
use Rattle.cox_fill_core.proofs.Needs.{least_missing}
use Rattle.cox_fill_core.proofs.Runs.{after_all-append}
use Rattle.cox_fill_core.proofs.EventCases.{claim_cases, void_cases, publish_cases, after_good}

opening_good : (needs : ℕ → List ℕ) → IsGood needs opening_core
opening_good needs = record {
  claimed = λ i h. cc;
  held = λ a i h. cc;
  one = λ a b i h k. cc;
  seen = λ a i h. cc;
  needed = λ i j h n. cc;
}

all_good : (needs : ℕ → List ℕ) (c : Fill) (es : List Event) → IsGood needs c → IsGood needs (after_all needs c es)
all_good needs c [] g = g
all_good needs c (e ∷ es) g = all_good needs (after needs c e) es (after_good needs c e g)

pub stays_good : (needs : ℕ → List ℕ) → StaysGood needs
stays_good needs es = all_good needs opening_core es (opening_good needs)

-- ---- what stays, whatever comes

not_free_step : (needs : ℕ → List ℕ) (c : Fill) (e : Event) (i : ℕ) → c.state i ≢ RowState.Free → (after needs c e).state i ≢ RowState.Free
not_free_step needs c (Event.Claim a j) i h =
    claim_cases needs c a j (λ d r. d.state i ≢ RowState.Free) (λ _ k. grind (arith, nat_tests)) (λ _. h)
not_free_step needs c (Event.Look a j) i h = h
not_free_step needs c (Event.Publish a j) i h =
    publish_cases needs c a j (λ d r. d.state i ≢ RowState.Free) (λ _ _ k. grind (arith, nat_tests)) (λ _ _. h)
not_free_step needs c (Event.Void a j) i h =
    void_cases needs c a j (λ d r. d.state i ≢ RowState.Free) (λ _ k. grind (arith, nat_tests)) (λ _. h)
not_free_step needs c (Event.Tell a b) i h = h

not_free_stays : (needs : ℕ → List ℕ) (c : Fill) (es : List Event) (i : ℕ) → c.state i ≢ RowState.Free
    → (after_all needs c es).state i ≢ RowState.Free
not_free_stays needs c [] i h = h
not_free_stays needs c (e ∷ es) i h = not_free_stays needs (after needs c e) es i (not_free_step needs c e i h)

-- a row that was ended keeps its state
ended_step : (needs : ℕ → List ℕ) (c : Fill) (e : Event) (i : ℕ) (x : RowState) → IsGood needs c → x ≢ RowState.Free
    → x ≢ RowState.Claimed → c.state i ≡ x → (after needs c e).state i ≡ x
ended_step needs c (Event.Claim a j) i x g f k h =
    claim_cases needs c a j (λ d r. d.state i ≡ x) (λ free. grind (arith, nat_tests)) (λ _. h)
ended_step needs c (Event.Look a j) i x g f k h = h
ended_step needs c (Event.Publish a j) i x g f k h =
    publish_cases needs c a j (λ d r. d.state i ≡ x) (λ mine _. grind (arith, nat_tests, g.held a j)) (λ _ _. h)
ended_step needs c (Event.Void a j) i x g f k h =
    void_cases needs c a j (λ d r. d.state i ≡ x) (λ mine. grind (arith, nat_tests, g.held a j)) (λ _. h)
ended_step needs c (Event.Tell a b) i x g f k h = h

ended_stays : (needs : ℕ → List ℕ) (c : Fill) (es : List Event) (i : ℕ) (x : RowState) → IsGood needs c → x ≢ RowState.Free
    → x ≢ RowState.Claimed → c.state i ≡ x → (after_all needs c es).state i ≡ x
ended_stays needs c [] i x g f k h = h
ended_stays needs c (e ∷ es) i x g f k h =
    ended_stays needs (after needs c e) es i x (after_good needs c e g) f k (ended_step needs c e i x g f k h)

seen_step : (needs : ℕ → List ℕ) (c : Fill) (e : Event) (a i : ℕ) → c.seen a i ≡ true → (after needs c e).seen a i ≡ true
seen_step needs c (Event.Claim b j) a i h = claim_cases needs c b j (λ d r. d.seen a i ≡ true) (λ _. h) (λ _. grind (arith, nat_tests))
seen_step needs c (Event.Look b j) a i h = grind (arith, nat_tests)
seen_step needs c (Event.Publish b j) a i h =
    publish_cases needs c b j (λ d r. d.seen a i ≡ true) (λ _ _. grind (arith, nat_tests)) (λ _ _. h)
seen_step needs c (Event.Void b j) a i h = void_cases needs c b j (λ d r. d.seen a i ≡ true) (λ _. h) (λ _. h)
seen_step needs c (Event.Tell b d) a i h = grind (arith, nat_tests)

seen_stays : (needs : ℕ → List ℕ) (c : Fill) (es : List Event) (a i : ℕ) → c.seen a i ≡ true → (after_all needs c es).seen a i ≡ true
seen_stays needs c [] a i h = h
seen_stays needs c (e ∷ es) a i h = seen_stays needs (after needs c e) es a i (seen_step needs c e a i h)

-- ---- what must have come before

put_at_cases : {X : Type 0} (f : ℕ → ℕ → X) (b j : ℕ) (x : X) (a i : ℕ) (y : X) → put_at f b j x a i ≡ y
    → ((b ≡ a) × (j ≡ i) × (x ≡ y)) ⊎ (f a i ≡ y)
put_at_cases f b j x a i y h = grind (arith, nat_tests)

-- a hold begins with a claim that wins
held_step : (needs : ℕ → List ℕ) (c : Fill) (e : Event) (a i : ℕ) → (after needs c e).holds a i ≡ true
    → (c.holds a i ≡ true) ⊎ ((e ≡ Event.Claim a i) × (reply needs c e ≡ Reply.Won))
held_step needs c (Event.Claim b j) a i h =
    claim_cases needs c b j (λ d r. d.holds a i ≡ true → (c.holds a i ≡ true) ⊎ ((Event.Claim b j ≡ Event.Claim a i) × (r ≡ Reply.Won)))
    (λ _ k. ⊎_elim (λ w. inr (ap (λ z. Event.Claim z j) w.0 ∙ ap (Event.Claim a) w.1, refl)) inl (put_at_cases c.holds b j true a i true k))
    (λ _ k. inl k)
    h
held_step needs c (Event.Look b j) a i h = inl h
held_step needs c (Event.Publish b j) a i h =
    inl (publish_cases needs c b j (λ d r. d.holds a i ≡ true → c.holds a i ≡ true) (λ _ _ k. grind (arith, nat_tests)) (λ _ _ k. k) h)
held_step needs c (Event.Void b j) a i h =
    inl (void_cases needs c b j (λ d r. d.holds a i ≡ true → c.holds a i ≡ true) (λ _ k. grind (arith, nat_tests)) (λ _ k. k) h)
held_step needs c (Event.Tell b d) a i h = inl h

held_since : (needs : ℕ → List ℕ) (c : Fill) (es : List Event) (a i : ℕ) → (after_all needs c es).holds a i ≡ true
    → (c.holds a i ≡ true) ⊎ HappenedFrom needs c es (Event.Claim a i) Reply.Won
held_since needs c [] a i h = inl h
held_since needs c (e ∷ es) a i h = ⊎_elim (λ k. ⊎_elim inl (λ won. inr (inl won)) (held_step needs c e a i k))
    (λ later. inr (inr later)) (held_since needs (after needs c e) es a i h)

-- a row becomes Published where somebody makes it
published_step : (needs : ℕ → List ℕ) (c : Fill) (e : Event) (i : ℕ) → (after needs c e).state i ≡ RowState.Published
    → (c.state i ≡ RowState.Published) ⊎ ((b : ℕ) × (e ≡ Event.Publish b i) × (reply needs c e ≡ Reply.Made))
published_step needs c (Event.Claim b j) i h = inl
    (claim_cases needs c b j (λ d r. d.state i ≡ RowState.Published → c.state i ≡ RowState.Published) (λ _ k. grind (arith, nat_tests))
    (λ _ k. k) h)
published_step needs c (Event.Look b j) i h = inl h
published_step needs c (Event.Publish b j) i h = publish_cases needs c b j
    (λ d r. d.state i ≡ RowState.Published → (c.state i ≡ RowState.Published) ⊎
    ((d : ℕ) × (Event.Publish b j ≡ Event.Publish d i) × (r ≡ Reply.Made)))
    (λ _ _ k. ⊎_elim (λ w. inr (b, ap (Event.Publish b) (sym w.0), refl)) (λ w. inl w.1)
    (put_cases c.state j RowState.Published i RowState.Published k))
    (λ _ _ k. inl k)
    h
published_step needs c (Event.Void b j) i h = inl
    (void_cases needs c b j (λ d r. d.state i ≡ RowState.Published → c.state i ≡ RowState.Published) (λ _ k. grind (arith, nat_tests))
    (λ _ k. k) h)
published_step needs c (Event.Tell b d) i h = inl h

published_since : (needs : ℕ → List ℕ) (c : Fill) (es : List Event) (i : ℕ) → (after_all needs c es).state i ≡ RowState.Published
    → (c.state i ≡ RowState.Published) ⊎ ((b : ℕ) × HappenedFrom needs c es (Event.Publish b i) Reply.Made)
published_since needs c [] i h = inl h
published_since needs c (e ∷ es) i h = ⊎_elim (λ k. ⊎_elim inl (λ w. inr (w.0, inl (w.1, w.2))) (published_step needs c e i k))
    (λ w. inr (w.0, inr w.1)) (published_since needs (after needs c e) es i h)

now_void : (needs : ℕ → List ℕ) (c : Fill) (a i : ℕ) → reply needs c (Event.Void a i) ≡ Reply.Voided
    → (after needs c (Event.Void a i)).state i ≡ RowState.Void
now_void needs c a i =
    void_cases needs c a i (λ d r. r ≡ Reply.Voided → d.state i ≡ RowState.Void) (λ _ _. put_here c.state i RowState.Void) (λ _ k. cc)

-- a row that was voided is Void
voided_is_void : (needs : ℕ → List ℕ) (c : Fill) (es : List Event) (a i : ℕ) → IsGood needs c
    → HappenedFrom needs c es (Event.Void a i) Reply.Voided → (after_all needs c es).state i ≡ RowState.Void
voided_is_void needs c [] a i g h = absurd h
voided_is_void needs c (e ∷ es) a i g h = ⊎_elim
    (λ k. ended_stays needs (after needs c e) es i RowState.Void (after_good needs c e g) (λ n. cc) (λ n. cc)
    (subst (λ z. (after needs c z).state i ≡ RowState.Void) (sym k.0)
    (now_void needs c a i (subst (λ z. reply needs c z ≡ Reply.Voided) k.0 k.1))))
    (λ k. voided_is_void needs (after needs c e) es a i (after_good needs c e g) k)
    h

-- ---- the laws

-- the reply to a claim on a row that is not Free
loses : (needs : ℕ → List ℕ) (c : Fill) (b i : ℕ) → c.state i ≢ RowState.Free → reply needs c (Event.Claim b i) ≡ Reply.Lost (c.state i)
loses needs c b i h = claim_cases needs c b i (λ d r. r ≡ Reply.Lost (c.state i)) (λ free. absurd (h free)) (λ _. refl)

won_not_free : (needs : ℕ → List ℕ) (c : Fill) (a i : ℕ) → reply needs c (Event.Claim a i) ≡ Reply.Won
    → (after needs c (Event.Claim a i)).state i ≢ RowState.Free
won_not_free needs c a i =
    claim_cases needs c a i (λ d r. r ≡ Reply.Won → d.state i ≢ RowState.Free) (λ _ _ k. grind (arith, nat_tests)) (λ _ k. cc)

-- the core after an event in the midst of a list
reached-at : (needs : ℕ → List ℕ) (before later : List Event) (e : Event)
    → reached needs (before ++ e ∷ later) ≡ after_all needs (after needs (reached needs before) e) later
reached-at needs before later e = after_all-append needs opening_core before (e ∷ later)

pub won_once : (needs : ℕ → List ℕ) → IsWonOnce needs
won_once needs before between a i won =
    let taken : (reached needs (before ++ Event.Claim a i ∷ between)).state i ≢ RowState.Free
    = subst (λ c. c.state i ≢ RowState.Free) (sym (reached-at needs before between (Event.Claim a i)))
    (not_free_stays needs (after needs (reached needs before) (Event.Claim a i)) between i
    (won_not_free needs (reached needs before) a i won)) in
    let lost = λ (b : ℕ). loses needs (reached needs (before ++ Event.Claim a i ∷ between)) b i taken in
    record { state = taken; lost = lost; not_won = λ b k. let l = lost b in cc }

made_earned : (needs : ℕ → List ℕ) (c : Fill) (a i : ℕ) → reply needs c (Event.Publish a i) ≡ Reply.Made
    → (c.holds a i ≡ true) × ((j : ℕ) → Contains (needs i) j → c.seen a j ≡ true)
made_earned needs c a i = publish_cases needs c a i
    (λ d r. r ≡ Reply.Made → (c.holds a i ≡ true) × ((j : ℕ) → Contains (needs i) j → c.seen a j ≡ true)) (λ mine all _. (mine, all))
    (λ r h k. absurd (h k))

pub made_by_winner : (needs : ℕ → List ℕ) → IsMadeByWinner needs
made_by_winner needs events a i made =
    let g = stays_good needs events in
    let w = made_earned needs (reached needs events) a i made in
    record {
      won = ⊎_elim (λ k. cc) (λ h. h) (held_since needs opening_core events a i w.0);
      not_voided = λ h. let v = voided_is_void needs opening_core events a i (opening_good needs) h in let k = g.held a i w.0 in cc;
      seen = w.1;
      made = λ j n. ⊎_elim (λ k. cc) (λ h. h) (published_since needs opening_core events j (g.seen a j (w.1 j n)));
    }

-- a row that nobody holds
nobody_holds : (needs : ℕ → List ℕ) (c : Fill) (i : ℕ) → IsGood needs c → c.state i ≢ RowState.Claimed → (b : ℕ) → c.holds b i ≡ false
nobody_holds needs c i g h b = false_from_ne_true (c.holds b i) (λ k. h (g.held b i k))

-- a row with a final state is settled
settled : (needs : ℕ → List ℕ) (events : List Event) (i : ℕ) (x : RowState) → x ≢ RowState.Free → x ≢ RowState.Claimed
    → (reached needs events).state i ≡ x → IsForGood needs events i x
settled needs events i x f k h =
    let c = reached needs events in
    let unheld = nobody_holds needs c i (stays_good needs events) (λ e. k (sym h ∙ e)) in
    record {
      state = h;
      claim = λ b. loses needs c b i (λ e. f (sym h ∙ e)) ∙ ap Reply.Lost h;
      look = λ b. ap Reply.Seen h;
      publish = λ b. cond-false (c.holds b i) _ _ (unheld b);
      void = λ b. cond-false (c.holds b i) _ _ (unheld b);
    }

-- a row that an event ended is settled from then on
ended : (needs : ℕ → List ℕ) (before later : List Event) (e : Event) (i : ℕ) (x : RowState) → x ≢ RowState.Free → x ≢ RowState.Claimed
    → (after needs (reached needs before) e).state i ≡ x → IsForGood needs (before ++ e ∷ later) i x
ended needs before later e i x f k h =
    settled needs (before ++ e ∷ later) i x f k
    (subst (λ c. c.state i ≡ x) (sym (reached-at needs before later e))
    (ended_stays needs (after needs (reached needs before) e) later i x
    (after_good needs (reached needs before) e (stays_good needs before)) f k h))

pub published_for_good : (needs : ℕ → List ℕ) → IsPublishedForGood needs
published_for_good needs before later a i made =
    ended needs before later (Event.Publish a i) i RowState.Published (λ k. cc) (λ k. cc)
    (publish_cases needs (reached needs before) a i (λ d r. r ≡ Reply.Made → d.state i ≡ RowState.Published)
    (λ _ _ _. put_here (reached needs before).state i RowState.Published) (λ r h k. absurd (h k)) made)

pub void_for_good : (needs : ℕ → List ℕ) → IsVoidForGood needs
void_for_good needs before later a i gone =
    ended needs before later (Event.Void a i) i RowState.Void (λ k. cc) (λ k. cc)
    (now_void needs (reached needs before) a i gone)

-- the core just after an event
reached-snoc : (needs : ℕ → List ℕ) (events : List Event) (e : Event)
    → reached needs (events ++ e ∷ []) ≡ after needs (reached needs events) e
reached-snoc needs events e = reached-at needs events [] e

told_published : (needs : ℕ → List ℕ) (c : Fill) (a i : ℕ) → c.state i ≡ RowState.Published → (noticed c a i).seen a i ≡ true
told_published needs c a i h = let p = ap is_published h in grind (arith, nat_tests)

seen_by_claim : (needs : ℕ → List ℕ) (c : Fill) (a i : ℕ) → reply needs c (Event.Claim a i) ≡ Reply.Lost RowState.Published
    → (after needs c (Event.Claim a i)).seen a i ≡ true
seen_by_claim needs c a i = claim_cases needs c a i (λ d r. r ≡ Reply.Lost RowState.Published → d.seen a i ≡ true) (λ _ k. cc)
    (λ _ k. told_published needs c a i cc)

seen_by_publish : (needs : ℕ → List ℕ) (c : Fill) (a i : ℕ) → reply needs c (Event.Publish a i) ≡ Reply.Made
    → (after needs c (Event.Publish a i)).seen a i ≡ true
seen_by_publish needs c a i =
    publish_cases needs c a i (λ d r. r ≡ Reply.Made → d.seen a i ≡ true) (λ _ _ _. grind (arith, nat_tests)) (λ r h k. absurd (h k))

seen_by_tell : (needs : ℕ → List ℕ) (c : Fill) (a b i : ℕ) → c.seen a i ≡ true → (after needs c (Event.Tell a b)).seen b i ≡ true
seen_by_tell needs c a b i h = grind (arith, nat_tests)

pub seen_stays_so : (needs : ℕ → List ℕ) → SeenStays needs
seen_stays_so needs = record {
  by_claim = λ events a i h. subst (λ c. c.seen a i ≡ true) (sym (reached-snoc needs events (Event.Claim a i)))
      (seen_by_claim needs (reached needs events) a i h);
  by_look = λ events a i h. subst (λ c. c.seen a i ≡ true) (sym (reached-snoc needs events (Event.Look a i)))
      (told_published needs (reached needs events) a i cc);
  by_publish = λ events a i h. subst (λ c. c.seen a i ≡ true) (sym (reached-snoc needs events (Event.Publish a i)))
      (seen_by_publish needs (reached needs events) a i h);
  by_tell = λ events a b i h. subst (λ c. c.seen b i ≡ true) (sym (reached-snoc needs events (Event.Tell a b)))
      (seen_by_tell needs (reached needs events) a b i h);
  settled = λ before later a i h. settled needs (before ++ later) i RowState.Published (λ k. cc) (λ k. cc)
      (subst (λ c. c.state i ≡ RowState.Published) (sym (after_all-append needs opening_core before later))
      (ended_stays needs (reached needs before) later i RowState.Published (stays_good needs before) (λ k. cc) (λ k. cc)
      ((stays_good needs before).seen a i h)));
  stays = λ before later a i h. subst (λ c. c.seen a i ≡ true) (sym (after_all-append needs opening_core before later))
      (seen_stays needs (reached needs before) later a i h);
}

pub keeps_good : (needs : ℕ → List ℕ) → KeepsGood needs
keeps_good needs = record { start = opening_good needs; event = after_good needs }

missing_is : (b : Bool) (o : Option ℕ) (j : ℕ) → cond b (publish_reply o) Reply.NotYours ≡ Reply.Missing j → o ≡ Some j
missing_is true None j h = cc
missing_is true (Some k) j h = cc
missing_is false o j h = cc

pub misses_least : (needs : ℕ → List ℕ) → MissesLeast needs
misses_least needs events a i j h =
    let c = reached needs events in
    let l = least_missing (c.seen a) (needs i) j (missing_is (c.holds a i) (missing needs c a i) j h) in
    record { needed = l.0; unseen = l.1; least = l.2 }
