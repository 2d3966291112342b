-- Each step of a table is the event that it is named after, and every table under the rule shows a good core.
use Rattle.std.proofs.Common.{◌≡◌, ◌≢◌, ℕ, zero, suc, ◌<◌, Bool, true, false, ◌&&◌, cond, ◌==◌, ⊎_elim, inr, List, [], ◌∷◌, ◌++◌}
use Rattle.std.proofs.Common.{length, get_or, set, replicate, length-set, length-append, refl, sym, ap, subst, ◌∙◌, arith}
use Rattle.std.proofs.lemmas.Bool.{cases_eq, eq-eqb, ne_eqb, false≢true, cond-true, cond-false}
use Rattle.std.proofs.lemmas.List.{get_or_past, length-replicate}
use mathlib.Core.Option.{some}
use lib.ListN.{get_elem?}
use prog.Atomic.{either}
use Rattle.atomic_table.proofs.Lists.{set_else}
use Rattle.cox_fill_core.specs.declared.event.RowState.{RowState}
use Rattle.cox_fill_core.specs.declared.event.Event.{Event}
use Rattle.cox_fill_core.specs.declared.event.Reply.{Reply}
use Rattle.cox_fill_core.specs.Fill.{Fill, put, is_free, opening_core, after, reply, noticed, after_tell}
use Rattle.cox_fill_core.specs.Fill.{after_claim, after_publication, after_void}
use Rattle.cox_fill_core.specs.Good.{IsGood}
use Rattle.cox_fill_core.proofs.EventCases.{after_good}
use Rattle.cox_fill_core.proofs.Marks.{all_replicate}
use Rattle.cox_claims.specs.declared.view.View.{View}
use Rattle.cox_claims.specs.declared.table.Claimed.{Claimed}
use Rattle.cox_claims.specs.Knowledge.{holds, saw_published, caused, IsKnown, nothing, newcomer, looked, won, claimed, published}
use Rattle.cox_claims.specs.Knowledge.{voided, parted, told, joined}
use Rattle.cox_claims.specs.Plays.{claim_answer}
use Rattle.cox_claims.specs.Rule.{state_of, IsKept, state_at, view_at, KeepsRule}
use Rattle.cox_claims.specs.Events.{no_needs, IsShown, Table, Shows, IsEvent, Sits, moved, after_split, after_meeting}
use Rattle.cox_claims.specs.Events.{fresh_table, claim_reply, StepsAreEvents}
use Rattle.cox_claims.proofs.Views.{nothing_known, nothing_caused}
use Rattle.cox_claims.proofs.Keeps.{learns_keeps, published_acts, voided_acts}
use Rattle.cox_claims.proofs.Boards.{state_set, view_set, view_snoc, view_here, at_within, put_same}
use Rattle.cox_claims.proofs.Allowed.{known_here, learns, changes, wins, zero_free, taken_not_free, split_allowed, join_allowed}
use Rattle.cox_claims.proofs.Splits.{start_splits}
use Rattle.cox_claims.proofs.Shown.{look_shown, claim_shown, publish_shown, void_shown, split_shown, meet_shown}

not_free : (x : RowState) → x ≢ RowState.Free → is_free x ≡ false
not_free RowState.Free h = absurd (h refl)
not_free RowState.Claimed h = refl
not_free RowState.Published h = refl
not_free RowState.Void h = refl

-- ---- the table after a step, as functions

moved_kept : (rows : ℕ) (s : Table) (i n a : ℕ) (w : View) → i < length s.words → a < length s.views → KeepsRule rows (moved s i n a w)
    → IsKept (put (state_at s.words) i (state_of n)) (put (view_at s.views) a w)
moved_kept rows s i n a w li la k =
    subst (λ f. IsKept f (put (view_at s.views) a w)) (state_set s.words i n li)
    (subst (IsKept (state_at (set s.words i n))) (view_set s.views a w la) k.kept)

moved_shows : (s : Table) (i n a : ℕ) (w : View) (c : Fill) → i < length s.words → a < length s.views
    → IsShown (put (state_at s.words) i (state_of n)) (put (view_at s.views) a w) (length s.views) c → Shows (moved s i n a w) c
moved_shows s i n a w c li la h =
    subst (λ m. IsShown (state_at (set s.words i n)) (view_at (set s.views a w)) m c) (sym (length-set s.views a w))
    (subst (λ f. IsShown f (view_at (set s.views a w)) (length s.views) c) (sym (state_set s.words i n li))
    (subst (λ g. IsShown (put (state_at s.words) i (state_of n)) g (length s.views) c) (sym (view_set s.views a w la)) h))

-- ---- the steps of a seat, whose view is the one at its number

-- what the steps below take: the rule, a row, and a seat that is not spent
record Stands (rows : ℕ) (s : Table) (a i : ℕ) : Type 0 where
  pub rule : KeepsRule rows s
  pub within : i < rows
  pub at : get_elem? s.views a ≡ some (view_at s.views a)
  pub live : (view_at s.views a).spent ≡ false

word_there : (rows : ℕ) (s : Table) (a i : ℕ) → Stands rows s a i → i < length s.words
word_there rows s a i h = let k = h.rule.count in let l = h.within in omega arith

seat_there : (rows : ℕ) (s : Table) (a i : ℕ) → Stands rows s a i → a < length s.views
seat_there rows s a i h = at_within s.views a (view_at s.views a) h.at

-- word i becomes n and the view of seat a becomes w: this is the event e where it is so of states and views as functions
step_event : (rows : ℕ) (s : Table) (a i n : ℕ) (w : View) (e : Event) (r : Reply) → Stands rows s a i → KeepsRule rows (moved s i n a w)
    → ((c : Fill) → Shows s c → IsKept (put (state_at s.words) i (state_of n)) (put (view_at s.views) a w)
    → IsShown (put (state_at s.words) i (state_of n)) (put (view_at s.views) a w) (length s.views) (after no_needs c e))
    → ((c : Fill) → Shows s c → reply no_needs c e ≡ r)
    → IsEvent rows s (moved s i n a w) e r
step_event rows s a i n w e r h rule shown replied =
    let word = word_there rows s a i h in
    let seat = seat_there rows s a i h in record {
      rule = rule;
      good = λ c g _. after_good no_needs c e g;
      shown = λ c g sh. moved_shows s i n a w (after no_needs c e) word seat (shown c sh (moved_kept rows s i n a w word seat rule));
      reply_is = λ c g sh. replied c sh;
    }

-- ---- a look

-- a look, or a claim that is lost, shows the core in which the actor was told the state
told_state : (rows : ℕ) (s : Table) (a i : ℕ) → Stands rows s a i → (c : Fill) → Shows s c
    → IsKept (put (state_at s.words) i (state_at s.words i)) (put (view_at s.views) a (looked (view_at s.views a) i (state_at s.words i)))
    → IsShown (put (state_at s.words) i (state_at s.words i)) (put (view_at s.views) a (looked (view_at s.views a) i (state_at s.words i)))
    (length s.views) (noticed c a i)
told_state rows s a i h c sh kept =
    let w = looked (view_at s.views a) i (state_at s.words i) in
    let same = put_same (state_at s.words) i in
    subst (λ f. IsShown f (put (view_at s.views) a w) (length s.views) (noticed c a i)) (sym same)
    (look_shown (state_at s.words) (view_at s.views) (length s.views) c a i sh (seat_there rows s a i h) h.live
    (subst (λ f. IsKept f (put (view_at s.views) a w)) same kept))

look_event : (rows : ℕ) (s : Table) (a i : ℕ) → Stands rows s a i
    → IsEvent rows s (moved s i (get_or s.words i 0) a (looked (view_at s.views a) i (state_at s.words i))) (Event.Look a i)
    (Reply.Seen (state_at s.words i))
look_event rows s a i h =
    step_event rows s a i (get_or s.words i 0) (looked (view_at s.views a) i (state_at s.words i)) (Event.Look a i)
    (Reply.Seen (state_at s.words i)) h
    (learns rows s a i (view_at s.views a) [] h.rule h.within h.at h.live)
    (told_state rows s a i h)
    (λ c sh. ap Reply.Seen (sh.state_is i))

-- ---- a claim

-- a claim on a Free row
win_event : (rows : ℕ) (s : Table) (a i : ℕ) → Stands rows s a i → get_or s.words i 0 ≡ 0
    → IsEvent rows s (moved s i 1 a (won (view_at s.views a) i)) (Event.Claim a i) Reply.Won
win_event rows s a i h is_zero =
    let state = state_at s.words in
    let view = view_at s.views in
    let free = λ (c : Fill) (sh : Shows s c). ap is_free (sh.state_is i ∙ zero_free (get_or s.words i 0) is_zero) in
    step_event rows s a i 1 (won (view a) i) (Event.Claim a i) Reply.Won h
    (wins rows s a i (view a) [] h.rule h.within h.at h.live is_zero)
    (λ c sh kept. subst (λ b. IsShown (put state i RowState.Claimed) (put view a (won (view a) i)) (length s.views)
    (cond b (after_claim c a i) (noticed c a i)))
    (sym (free c sh)) (claim_shown state view (length s.views) c a i sh kept))
    (λ c sh. cond-true (is_free (c.state i)) Reply.Won (Reply.Lost (c.state i)) (free c sh))

-- a claim on a row that is not Free
lose_event : (rows : ℕ) (s : Table) (a i : ℕ) → Stands rows s a i → get_or s.words i 0 ≢ 0
    → IsEvent rows s (moved s i (get_or s.words i 0) a (looked (view_at s.views a) i (state_at s.words i))) (Event.Claim a i)
    (Reply.Lost (state_at s.words i))
lose_event rows s a i h not_zero =
    let state = state_at s.words in
    let view = view_at s.views in
    let w = looked (view a) i (state i) in
    let taken =
    λ (c : Fill) (sh : Shows s c). ap is_free (sh.state_is i) ∙ not_free (state i) (taken_not_free (get_or s.words i 0) not_zero) in
    step_event rows s a i (get_or s.words i 0) w (Event.Claim a i) (Reply.Lost (state i)) h
    (learns rows s a i (view a) [] h.rule h.within h.at h.live)
    (λ c sh kept. subst (λ b. IsShown (put state i (state i)) (put view a w) (length s.views) (cond b (after_claim c a i) (noticed c a i)))
    (sym (taken c sh)) (told_state rows s a i h c sh kept))
    (λ c sh. cond-false (is_free (c.state i)) Reply.Won (Reply.Lost (c.state i)) (taken c sh) ∙ ap Reply.Lost (sh.state_is i))

claim_event : (rows : ℕ) (s : Table) (a i : ℕ) → Stands rows s a i
    → IsEvent rows s (moved s i (either (get_or s.words i 0 == 0) 1 (get_or s.words i 0)) a
    (claimed (view_at s.views a) i (state_at s.words i))) (Event.Claim a i) (claim_reply (claim_answer (get_or s.words i 0)))
claim_event rows s a i h = ⊎_elim
    (λ is_zero. at true (eq-eqb n 0 is_zero) (ap is_free (zero_free n is_zero)) (win_event rows s a i h is_zero))
    (λ not_zero. at false (ne_eqb n 0 not_zero) (not_free x (taken_not_free n not_zero)) (lose_event rows s a i h not_zero))
    (cases_eq n 0)
  where
    n : ℕ
    n = get_or s.words i 0

    x : RowState
    x = state_at s.words i

    v : View
    v = view_at s.views a

    at : (b : Bool) → (n == 0) ≡ b → is_free x ≡ b
        → IsEvent rows s (moved s i (either b 1 n) a (cond b (won v i) (looked v i x))) (Event.Claim a i)
        (claim_reply (cond b Claimed.Won (Claimed.Lost x)))
        → IsEvent rows s (moved s i (either (n == 0) 1 n) a (cond (is_free x) (won v i) (looked v i x))) (Event.Claim a i)
        (claim_reply (cond (n == 0) Claimed.Won (Claimed.Lost x)))
    at b word free e =
        subst (λ z. IsEvent rows s (moved s i (either z 1 n) a (cond (is_free x) (won v i) (looked v i x))) (Event.Claim a i)
        (claim_reply (cond z Claimed.Won (Claimed.Lost x)))) (sym word)
        (subst (λ z. IsEvent rows s (moved s i (either b 1 n) a (cond z (won v i) (looked v i x))) (Event.Claim a i)
        (claim_reply (cond b Claimed.Won (Claimed.Lost x)))) (sym free) e)

-- ---- a publication and a void

-- what the actor holds in the core
held_core : (s : Table) (a i : ℕ) → holds (view_at s.views a) i ≡ true → (c : Fill) → Shows s c → c.holds a i ≡ true
held_core s a i mine c sh = sh.holds_is a i ∙ mine

-- row i is Claimed where the seat holds it
claimed_here : (rows : ℕ) (s : Table) (a i : ℕ) → Stands rows s a i → holds (view_at s.views a) i ≡ true
    → IsKnown (view_at s.views a) i RowState.Claimed
claimed_here rows s a i h mine =
    let known = known_here rows s a (view_at s.views a) h.rule h.at i in
    subst (IsKnown (view_at s.views a) i) (known.held mine) known

publish_event : (rows : ℕ) (s : Table) (a i : ℕ) → Stands rows s a i → holds (view_at s.views a) i ≡ true
    → IsEvent rows s (moved s i 2 a (published (view_at s.views a) i)) (Event.Publish a i) Reply.Made
publish_event rows s a i h mine =
    let state = state_at s.words in
    let view = view_at s.views in
    let w = published (view a) i in
    step_event rows s a i 2 w (Event.Publish a i) Reply.Made h
    (changes rows s a i 2 (view a) w [] h.rule h.within (omega arith) h.at h.live (inr mine)
    (published_acts (view a) i (claimed_here rows s a i h mine)))
    (λ c sh kept. subst (λ b. IsShown (put state i RowState.Published) (put view a w) (length s.views)
    (cond (b && true) (after_publication c a i) c))
    (sym (held_core s a i mine c sh)) (publish_shown state view (length s.views) c a i sh (seat_there rows s a i h) h.live kept))
    (λ c sh. cond-true (c.holds a i) Reply.Made Reply.NotYours (held_core s a i mine c sh))

void_event : (rows : ℕ) (s : Table) (a i : ℕ) → Stands rows s a i → holds (view_at s.views a) i ≡ true
    → IsEvent rows s (moved s i 3 a (voided (view_at s.views a) i)) (Event.Void a i) Reply.Voided
void_event rows s a i h mine =
    let state = state_at s.words in
    let view = view_at s.views in
    let w = voided (view a) i in
    step_event rows s a i 3 w (Event.Void a i) Reply.Voided h
    (changes rows s a i 3 (view a) w [] h.rule h.within (omega arith) h.at h.live (inr mine)
    (voided_acts (view a) i (claimed_here rows s a i h mine)))
    (λ c sh kept. subst (λ b. IsShown (put state i RowState.Void) (put view a w) (length s.views) (cond b (after_void c a i) c))
    (sym (held_core s a i mine c sh)) (void_shown state view (length s.views) c a i sh kept))
    (λ c sh. cond-true (c.holds a i) Reply.Voided Reply.NotYours (held_core s a i mine c sh))

-- ---- a split and a meeting

split_event : (rows : ℕ) (s : Table) (a : ℕ) → KeepsRule rows s → get_elem? s.views a ≡ some (view_at s.views a)
    → (view_at s.views a).spent ≡ false
    → IsEvent rows s (after_split s a (view_at s.views a)) (Event.Tell a (length s.views)) Reply.Told
split_event rows s a k at live = record {
  rule = rule;
  good = λ c g _. after_good no_needs c (Event.Tell a (length s.views)) g;
  shown = λ c g sh.
      subst (λ m. IsShown (state_at s.words) (view_at (old ++ new ∷ [])) m (after_tell c a (length s.views))) (sym longer)
      (subst (λ f. IsShown (state_at s.words) f (suc (length s.views)) (after_tell c a (length s.views))) (sym views)
      (split_shown (state_at s.words) (view_at s.views) (length s.views) c a sh live nobody
      (subst (IsKept (state_at s.words)) views rule.kept)));
  reply_is = λ c g sh. refl;
}
  where
    old : List View
    old = set s.views a (parted (view_at s.views a))

    new : View
    new = told (view_at s.views a)

    same_count : length old ≡ length s.views
    same_count = length-set s.views a (parted (view_at s.views a))

    longer : length (old ++ new ∷ []) ≡ suc (length s.views)
    longer = omega (arith, length-append old (new ∷ []), same_count)

    views : view_at (old ++ new ∷ []) ≡ put (put (view_at s.views) a (parted (view_at s.views a))) (length s.views) new
    views = view_snoc old new ∙ ap (λ m. put (view_at old) m new) same_count
        ∙ ap (λ f. put f (length s.views) new)
        (view_set s.views a (parted (view_at s.views a)) (at_within s.views a (view_at s.views a) at))

    nobody : (view_at s.views (length s.views)).held ≡ []
    nobody = ap (λ u. u.held) (get_or_past s.views (length s.views) nothing (omega arith))

    rule : KeepsRule rows (after_split s a (view_at s.views a))
    rule = split_allowed rows a (view_at s.views a) live s k at

meet_event : (rows : ℕ) (s : Table) (a b : ℕ) → KeepsRule rows s → get_elem? s.views a ≡ some (view_at s.views a)
    → (view_at s.views a).spent ≡ false
    → get_elem? s.views b ≡ some (view_at s.views b) → (view_at s.views b).spent ≡ false → b ≢ a → (view_at s.views b).held ≡ []
    → IsEvent rows s (after_meeting s a (view_at s.views a) b (view_at s.views b)) (Event.Tell b a) Reply.Told
meet_event rows s a b k at live there alive ne idle = record {
  rule = rule;
  good = λ c g _. after_good no_needs c (Event.Tell b a) g;
  shown = λ c g sh.
      subst (λ m. IsShown (state_at s.words) (view_at (set (set s.views a both) b nothing)) m (after_tell c b a))
      (sym (length-set (set s.views a both) b nothing ∙ length-set s.views a both))
      (subst (λ f. IsShown (state_at s.words) f (length s.views) (after_tell c b a)) (sym views)
      (meet_shown (state_at s.words) (view_at s.views) (length s.views) c a b sh here ne live alive idle
      (subst (IsKept (state_at s.words)) views rule.kept)));
  reply_is = λ c g sh. refl;
}
  where
    both : View
    both = joined (view_at s.views a) (view_at s.views b)

    here : a < length s.views
    here = at_within s.views a (view_at s.views a) at

    views : view_at (set (set s.views a both) b nothing) ≡ put (put (view_at s.views) a both) b nothing
    views = view_set (set s.views a both) b nothing
        (let l = at_within s.views b (view_at s.views b) there in let e = length-set s.views a both in omega arith) ∙ ap
        (λ f. put f b nothing) (view_set s.views a both here)

    rule : KeepsRule rows (after_meeting s a (view_at s.views a) b (view_at s.views b))
    rule = join_allowed rows a b (view_at s.views a) (view_at s.views b) live alive idle s k at ne (set_else s.views a b both ne ∙ there)

-- ---- the start, and that every table shows a core

blank_kept : IsKept (λ _. RowState.Free) (λ _. nothing)
blank_kept = record {
  cause = λ i h. absurd (h refl);
  one = λ a b i h l. cc;
  known = λ a i. nothing_known i RowState.Free;
  spent = λ a h. refl;
}

newcomer_known : (i : ℕ) → IsKnown newcomer i RowState.Free
newcomer_known i = record { held = λ h. cc; published = λ h. cc; void = λ h. cc; claimed = λ h. cc; made = λ h. cc; given_up = λ h. cc }

all_free : (rows : ℕ) → state_at (replicate rows 0) ≡ (λ i. RowState.Free)
all_free rows = λ k i. ap state_of (all_replicate rows i 0) k

below_four : (n : ℕ) → n ≡ 0 → n < 4
below_four n e = omega arith

pub start_rule : (rows : ℕ) → KeepsRule rows (fresh_table rows)
start_rule rows = record {
  count = length-replicate rows 0;
  words = λ i. below_four (get_or (replicate rows 0) i 0) (all_replicate rows i 0);
  kept = subst (λ f. IsKept f (view_at (newcomer ∷ []))) (sym (all_free rows))
      (subst (IsKept (λ _. RowState.Free)) (sym (view_snoc [] newcomer))
      (learns_keeps (λ _. RowState.Free) (λ _. nothing) 0 newcomer blank_kept (λ i x h. absurd (nothing_caused i x h))
      (λ i h. h) newcomer_known
      (λ gone. absurd (false≢true gone))));
  seats = start_splits;
}

-- the core that a table under the rule shows
abbrev core_of : Table → Fill
core_of s =
    record { state = state_at s.words; holds = λ a i. holds (view_at s.views a) i; seen = λ a i. saw_published (view_at s.views a) i }

-- a Claimed row is held
claimed_held : (state : ℕ → RowState) (view : ℕ → View) (i : ℕ) → IsKept state view → state i ≡ RowState.Claimed
    → (a : ℕ) × (holds (view a) i ≡ true)
claimed_held state view i k h =
    let c = k.cause i (λ e. cc) in
    (c.0, subst (λ x. caused (view c.0) i x ≡ true) h c.1)

shows_core : (rows : ℕ) (s : Table) → KeepsRule rows s → (c : Fill) × IsGood no_needs c × Shows s c
shows_core rows s k =
    let known = k.kept.known in (
      core_of s,
      record {
        claimed = λ i. claimed_held (state_at s.words) (view_at s.views) i k.kept;
        held = λ a i. (known a i).held;
        one = k.kept.one;
        seen = λ a i. (known a i).published;
        needed = λ i j h n. absurd (omega (arith, n.1));
      },
      record {
        state_is = λ i. refl;
        holds_is = λ a i. refl;
        seen_is = λ a i _. refl;
        void_is = λ a i. (known a i).void;
        claimed_is = λ a i. (known a i).claimed;
        fresh = λ a i le. ap (λ v. saw_published v i) (get_or_past s.views a nothing le);
      },
    )

start_shown : (rows : ℕ) → Shows (fresh_table rows) opening_core
start_shown rows =
    let k = start_rule rows in record {
      state_is = λ i. sym (ap (λ f. f i) (all_free rows));
      holds_is = λ a i. no_rows (λ v. holds v i) a refl refl;
      seen_is = λ a i _. no_rows (λ v. saw_published v i) a refl refl;
      void_is = λ a i. (k.kept.known a i).void;
      claimed_is = λ a i. (k.kept.known a i).claimed;
      fresh = λ a i _. refl;
    }
  where
    no_rows : (f : View → Bool) (a : ℕ) → f newcomer ≡ false → f nothing ≡ false → false ≡ f (view_at (newcomer ∷ []) a)
    no_rows f zero e n = sym e
    no_rows f (suc a) e n = sym n

stands : (rows : ℕ) (s : Table) (a i : ℕ) (v : View) → KeepsRule rows s → i < rows → Sits s a v → Stands rows s a i
stands rows s a i v k lt sits =
    let here = view_here s.views a v sits.at in
    record { rule = k; within = lt; at = sits.at ∙ ap some (sym here); live = ap (λ u. u.spent) here ∙ sits.live }

pub steps_are_events : (rows : ℕ) → StepsAreEvents rows
steps_are_events rows = record {
  start = (start_rule rows, start_shown rows);
  shows = shows_core rows;
  look = λ s a i v k lt sits.
      subst (λ u. IsEvent rows s (moved s i (get_or s.words i 0) a (looked u i (state_at s.words i))) (Event.Look a i)
      (Reply.Seen (state_at s.words i)))
      (view_here s.views a v sits.at) (look_event rows s a i (stands rows s a i v k lt sits));
  claim = λ s a i v k lt sits.
      subst (λ u. IsEvent rows s (moved s i (either (get_or s.words i 0 == 0) 1 (get_or s.words i 0)) a
      (claimed u i (state_at s.words i))) (Event.Claim a i) (claim_reply (claim_answer (get_or s.words i 0))))
      (view_here s.views a v sits.at) (claim_event rows s a i (stands rows s a i v k lt sits));
  publish = λ s a i v k lt sits mine.
      subst (λ u. IsEvent rows s (moved s i 2 a (published u i)) (Event.Publish a i) Reply.Made)
      (view_here s.views a v sits.at)
      (publish_event rows s a i (stands rows s a i v k lt sits) (ap (λ u. holds u i) (view_here s.views a v sits.at) ∙ mine));
  void = λ s a i v k lt sits mine.
      subst (λ u. IsEvent rows s (moved s i 3 a (voided u i)) (Event.Void a i) Reply.Voided)
      (view_here s.views a v sits.at)
      (void_event rows s a i (stands rows s a i v k lt sits) (ap (λ u. holds u i) (view_here s.views a v sits.at) ∙ mine));
  split = λ s a v k sits.
      let here = view_here s.views a v sits.at in
      subst (λ u. IsEvent rows s (after_split s a u) (Event.Tell a (length s.views)) Reply.Told) here
      (split_event rows s a k (sits.at ∙ ap some (sym here)) (ap (λ u. u.spent) here ∙ sits.live));
  meet = λ s a b v w k sits other ne idle.
      let here = view_here s.views a v sits.at in
      let there = view_here s.views b w other.at in
      subst (λ u. IsEvent rows s (after_meeting s a u b w) (Event.Tell b a) Reply.Told) here
      (subst (λ u. IsEvent rows s (after_meeting s a (view_at s.views a) b u) (Event.Tell b a) Reply.Told) there
      (meet_event rows s a b k (sits.at ∙ ap some (sym here)) (ap (λ u. u.spent) here ∙ sits.live)
      (other.at ∙ ap some (sym there)) (ap (λ u. u.spent) there ∙ other.live) ne (ap (λ u. u.held) there ∙ idle)));
}
