-- Each step is allowed: it keeps the rule of the table, and tells its seat what its call ensures.
use Rattle.std.proofs.Common.{◌≡◌, ◌≢◌, ℕ, ◌<◌, true, false, cond, ◌==◌, ◌⊎◌, ⊎_elim, inl, inr, List, [], length}
use Rattle.std.proofs.Common.{get_or, set, length-set, refl, sym, ap, subst, ◌∙◌, arith}
use Rattle.std.proofs.lemmas.Bool.{cases_eq, cases_lt, eq-eqb, ne_eqb, false≢true}
use Rattle.std.proofs.lemmas.Bool.Decides.{nat_tests}
use Rattle.std.proofs.lemmas.List.{get_or-set_same, get_or-set_other, set_past, get_or_past}
use mathlib.Core.Option.{some, none}
use lib.ListN.{get_elem?}
use prog.Atomic.{either}
use Rattle.atomic_table.specs.Table.{State, keeps, step, stepped, Allows, Splits, Joins}
use Rattle.atomic_table.proofs.Lists.{set_else}
use Rattle.cox_fill_core.specs.declared.event.RowState.{RowState}
use Rattle.cox_fill_core.specs.Fill.{put}
use Rattle.cox_fill_core.proofs.Points.{put_here, put_else}
use Rattle.cox_claims.specs.declared.view.View.{View}
use Rattle.cox_claims.specs.declared.table.Claimed.{Claimed}
use Rattle.cox_claims.specs.Knowledge.{among, holds, caused, IsKnown, nothing, looked, won, published, voided, parted, told}
use Rattle.cox_claims.specs.Knowledge.{TellsSameSeats, joined, TriesClaim}
use Rattle.cox_claims.specs.Rule.{state_of, IsKept, state_at, view_at, KeepsRule}
use Rattle.cox_claims.specs.declared.seat.Seat.{Seat}
use Rattle.cox_claims.specs.declared.table.Claims.{Claims}
use Rattle.cox_claims.specs.Seats.{Holds}
use Rattle.cox_claims.specs.Tables.{rows_of, IsSeatOf}
use Rattle.cox_claims.specs.Plays.{Sitter, TellsLook, TellsClaim, TellsPublish, TellsVoid}
use Rattle.cox_claims.proofs.Boards.{state_set, view_set, view_snoc, view_here, at_within, put_same}
use Rattle.cox_claims.proofs.Keeps.{Acts, learns_keeps, causes_here, acts_keeps, won_acts, published_acts, voided_acts}
use Rattle.cox_claims.proofs.Splits.{step_splits, split_splits, meeting_splits}
use Rattle.cox_claims.proofs.Views.{looked_did, did_caused, looked_known, parted_known, parted_caused, told_known}
use Rattle.cox_claims.proofs.Views.{nothing_caused, joined_known, joined_caused_first, joined_caused_second, nothing_known}
use Rattle.cox_claims.proofs.Views.{looked_sees, won_sees, published_sees, voided_sees}

-- ---- what a seat knows is so, and the rule after a step

pub known_here : (rows : ℕ) (s : State (Unit {0}) View) (a : ℕ) (v : View) → KeepsRule rows s → get_elem? s.views a ≡ some v
    → (j : ℕ) → IsKnown v j (state_at s.words j)
known_here rows s a v k at j = subst (λ u. IsKnown u j (state_at s.words j)) (view_here s.views a v at) (k.kept.known a j)

four_words : (words : List ℕ) (i n : ℕ) → ((j : ℕ) → get_or words j 0 < 4) → n < 4 → (j : ℕ) → get_or (set words i n) j 0 < 4
four_words words i n each small j = ⊎_elim
    (λ lt. ⊎_elim (λ e. subst (λ z. z < 4) (sym (ap (λ q. get_or (set words i n) q 0) e ∙ get_or-set_same words i n 0 lt)) small)
    (λ ne. subst (λ z. z < 4) (sym (get_or-set_other words i j n 0 ne)) (each j)) (cases_eq j i))
    (λ le. subst (λ z. get_or z j 0 < 4) (sym (set_past words i n le)) (each j))
    (cases_lt i (length words))

-- word i becomes n, and the view of seat a becomes w
moves : (rows : ℕ) (s : State (Unit {0}) View) (a i n : ℕ) (v w : View) (c : List (ℕ × Unit {0})) → KeepsRule rows s → i < rows → n < 4
    → get_elem? s.views a ≡ some v → w.spent ≡ v.spent → TellsSameSeats v w
    → IsKept (put (state_at s.words) i (state_of n)) (put (view_at s.views) a w) → KeepsRule rows (stepped s i n a c w keeps)
moves rows s a i n v w c k lt small at live same kept = record {
  count = length-set s.words i n ∙ k.count;
  words = four_words s.words i n k.words small;
  kept = subst (λ f. IsKept f (view_at (set s.views a w))) (sym (state_set s.words i n (omega (arith, k.count))))
      (subst (IsKept (put (state_at s.words) i (state_of n))) (sym (view_set s.views a w (at_within s.views a v at))) kept);
  seats = step_splits s.views a v w at live same k.seats;
}

-- a seat learns the state of row i, whose word stays
pub learns : (rows : ℕ) (s : State (Unit {0}) View) (a i : ℕ) (v : View) (c : List (ℕ × Unit {0})) → KeepsRule rows s → i < rows
    → get_elem? s.views a ≡ some v → v.spent ≡ false
    → KeepsRule rows (stepped s i (get_or s.words i 0) a c (looked v i (state_at s.words i)) keeps)
learns rows s a i v c k lt at live =
    let state = state_at s.words in
    let w = looked v i (state i) in
    let here = view_here s.views a v at in
    let did = looked_did v i (state i) in
    moves rows s a i (get_or s.words i 0) v w c k lt (k.words i) at did.live did.seats
    (subst (λ f. IsKept f (put (view_at s.views) a w)) (sym (put_same state i))
    (learns_keeps state (view_at s.views) a w k.kept
    (causes_here (view_at s.views) a w (λ j x h. did_caused v w did j x ∙ ap (λ u. caused u j x) (sym here) ∙ h))
    (λ j h. ap (λ u. holds u j) here ∙ sym (ap (among j) did.held) ∙ h)
    (λ j. looked_known v i (state i) j (state j) (λ e. ap state e) (known_here rows s a v k at j))
    (λ gone. absurd (false≢true (sym live ∙ sym did.live ∙ gone)))))

-- a seat changes the state of row i, which was Free or which it held
pub changes : (rows : ℕ) (s : State (Unit {0}) View) (a i n : ℕ) (v w : View) (c : List (ℕ × Unit {0})) → KeepsRule rows s → i < rows
    → n < 4
    → get_elem? s.views a ≡ some v → v.spent ≡ false → (state_at s.words i ≡ RowState.Free) ⊎ (holds v i ≡ true) → Acts v i (state_of n) w
    → KeepsRule rows (stepped s i n a c w keeps)
changes rows s a i n v w c k lt small at live mine acts =
    let here = view_here s.views a v at in
    moves rows s a i n v w c k lt small at acts.live acts.seats
    (acts_keeps (state_at s.words) (view_at s.views) a i (state_of n) w k.kept
    (⊎_elim inl (λ h. inr (ap (λ u. holds u i) here ∙ h)) mine)
    (ap (λ u. u.spent) here ∙ live)
    (subst (λ u. Acts u i (state_of n) w) (sym here) acts))

-- ---- a look

look_allowed : (rows slots a i : ℕ) (me : Sitter) → i < rows → me.0.spent ≡ false
    → Allows (KeepsRule rows) slots a me i (λ n. n) (TellsLook (step slots i 0 0 none) me)
look_allowed rows slots a i me lt live = λ s k homes at small.
    let did = looked_did me.0 i (state_at s.words i) in (
      looked me.0 i (state_at s.words i),
      keeps,
      tt,
      learns rows s a i me.0 me.1 k lt at live,
      (
        record { known = known_here rows s a me.0 k at i; after = refl; held = did.held; kept = looked_sees me.0 i (state_at s.words i) },
        record { carried = refl; live = did.live },
      ),
    )

-- ---- a claim

-- the word of a Free row is 0, and no other word is
pub zero_free : (n : ℕ) → n ≡ 0 → state_of n ≡ RowState.Free
zero_free n e = ap state_of e

pub taken_not_free : (n : ℕ) → n ≢ 0 → state_of n ≢ RowState.Free
taken_not_free n ne f = grind (arith, nat_tests)

-- a seat wins row i, whose word was 0
pub wins : (rows : ℕ) (s : State (Unit {0}) View) (a i : ℕ) (v : View) (c : List (ℕ × Unit {0})) → KeepsRule rows s → i < rows
    → get_elem? s.views a ≡ some v → v.spent ≡ false → get_or s.words i 0 ≡ 0 → KeepsRule rows (stepped s i 1 a c (won v i) keeps)
wins rows s a i v c k lt at live is_zero =
    let free = zero_free (get_or s.words i 0) is_zero in
    changes rows s a i 1 v (won v i) c k lt (omega arith) at live (inl free)
    (won_acts v i (subst (IsKnown v i) free (known_here rows s a v k at i)))

claim_allowed : (rows slots a i : ℕ) (me : Sitter) → i < rows → me.0.spent ≡ false
    → Allows (KeepsRule rows) slots a me i (λ n. either (n == 0) 1 n) (TellsClaim (step slots i 0 1 none) me)
claim_allowed rows slots a i me lt live = λ s k homes at small.
    let v = me.0 in
    let n = get_or s.words i 0 in
    let state = state_at s.words in
    let known = known_here rows s a v k at i in
    let did = looked_did v i (state i) in
    ⊎_elim
    (λ is_zero. (
      won v i,
      keeps,
      tt,
      subst (λ b. KeepsRule rows (stepped s i (either b 1 n) a me.1 (won v i) keeps)) (sym (eq-eqb n 0 is_zero))
          (wins rows s a i v me.1 k lt at live is_zero),
      (
        subst (λ b. TriesClaim v i (cond b Claimed.Won (Claimed.Lost (state_of n))) (won v i)) (sym (eq-eqb n 0 is_zero))
            (record { known = subst (IsKnown v i) (zero_free n is_zero) known; after = refl; kept = won_sees v i }),
        record { carried = refl; live = refl },
      ),
    ))
    (λ taken. (
      looked v i (state i),
      keeps,
      tt,
      subst (λ b. KeepsRule rows (stepped s i (either b 1 n) a me.1 (looked v i (state i)) keeps)) (sym (ne_eqb n 0 taken))
          (learns rows s a i v me.1 k lt at live),
      (
        subst (λ b. TriesClaim v i (cond b Claimed.Won (Claimed.Lost (state_of n))) (looked v i (state i))) (sym (ne_eqb n 0 taken))
            (record { taken = taken_not_free n taken; known = known; after = refl; held = did.held; kept = looked_sees v i (state i) }),
        record { carried = refl; live = did.live },
      ),
    ))
    (cases_eq n 0)

-- ---- a publication and a void

-- a seat that holds row i stores a word there, and is told so
store_allowed : (rows slots a i n : ℕ) (me : Sitter) (w : View) (then : Sitter → Type 0) → i < rows → me.0.spent ≡ false
    → holds me.0 i ≡ true → n < 4
    → (IsKnown me.0 i RowState.Claimed → Acts me.0 i (state_of n) w × then (w, me.1))
    → Allows (KeepsRule rows) slots a me i (λ _. n) (λ _. then)
store_allowed rows slots a i n me w then lt live mine small acts = λ s k homes at fits.
    let known = known_here rows s a me.0 k at i in
    let does = acts (subst (IsKnown me.0 i) (known.held mine) known) in (
      w,
      keeps,
      tt,
      changes rows s a i n me.0 w me.1 k lt small at live (inr mine) does.0,
      does.1,
    )

publish_allowed : (rows slots a i : ℕ) (me : Sitter) → i < rows → me.0.spent ≡ false → holds me.0 i ≡ true
    → Allows (KeepsRule rows) slots a me i (λ _. 2) (λ _. TellsPublish (step slots i 2 0 none) me 2)
publish_allowed rows slots a i me lt live mine =
    store_allowed rows slots a i 2 me (published me.0 i) (TellsPublish (step slots i 2 0 none) me 2) lt live mine (omega arith)
    (λ known. (
      published_acts me.0 i known,
      (record { known = known; after = refl; kept = published_sees me.0 i }, record { carried = refl; live = refl }),
    ))

void_allowed : (rows slots a i : ℕ) (me : Sitter) → i < rows → me.0.spent ≡ false → holds me.0 i ≡ true
    → Allows (KeepsRule rows) slots a me i (λ _. 3) (λ _. TellsVoid (step slots i 3 0 none) me 3)
void_allowed rows slots a i me lt live mine =
    store_allowed rows slots a i 3 me (voided me.0 i) (TellsVoid (step slots i 3 0 none) me 3) lt live mine (omega arith)
    (λ known. (
      voided_acts me.0 i known,
      (record { known = known; after = refl; kept = voided_sees me.0 i }, record { carried = refl; live = refl }),
    ))

-- ---- a split and a meeting

pub split_allowed : (rows a : ℕ) (v : View) → v.spent ≡ false → Splits (KeepsRule rows) a v (parted v) (told v)
split_allowed rows a v live = λ s k at.
    let state = state_at s.words in
    let views = set s.views a (parted v) in
    let here = view_here s.views a v at in
    let first : IsKept state (view_at views)
    = subst (IsKept state) (sym (view_set s.views a (parted v) (at_within s.views a v at)))
    (learns_keeps state (view_at s.views) a (parted v) k.kept
    (causes_here (view_at s.views) a (parted v) (λ j x h. parted_caused v j x ∙ ap (λ u. caused u j x) (sym here) ∙ h))
    (λ j h. ap (λ u. holds u j) here ∙ h)
    (λ j. parted_known v j (state j) (known_here rows s a v k at j))
    (λ gone. absurd (false≢true (sym live ∙ gone)))) in
    let past = get_or_past views (length views) nothing (omega arith) in
    record {
      count = k.count;
      words = k.words;
      kept = subst (IsKept state) (sym (view_snoc views (told v)))
          (learns_keeps state (view_at views) (length views) (told v) first
          (λ j x h. absurd (nothing_caused j x (ap (λ u. caused u j x) (sym past) ∙ h)))
          (λ j h. cc)
          (λ j. told_known v j (state j) (known_here rows s a v k at j))
          (λ gone. absurd (false≢true gone)));
      seats = split_splits s.views a v at live k.seats;
    }

pub join_allowed : (rows a b : ℕ) (v w : View) → v.spent ≡ false → w.spent ≡ false → w.held ≡ []
    → Joins (KeepsRule rows) a v b w (joined v w) nothing
join_allowed rows a b v w live alive idle = λ s k at ne there.
    let state = state_at s.words in
    let both = joined v w in
    let views = set s.views a both in
    let here = view_here s.views a v at in
    let second : get_elem? s.views b ≡ some w = sym (set_else s.views a b both ne) ∙ there in
    let first : IsKept state (view_at views)
    = subst (IsKept state) (sym (view_set s.views a both (at_within s.views a v at)))
    (learns_keeps state (view_at s.views) a both k.kept
    (causes_here (view_at s.views) a both (λ j x h. joined_caused_first v w j x (ap (λ u. caused u j x) (sym here) ∙ h)))
    (λ j h. ap (λ u. holds u j) here ∙ h)
    (λ j. joined_known v w j (state j) (known_here rows s a v k at j) (known_here rows s b w k second j))
    (λ gone. absurd (false≢true (sym live ∙ gone)))) in
    let joins : put (view_at views) b nothing a ≡ both
    = put_else (view_at views) b nothing a (λ e. ne (sym e)) ∙ ap (λ f. f a) (view_set s.views a both (at_within s.views a v at))
    ∙ put_here (view_at s.views) a both in
    record {
      count = k.count;
      words = k.words;
      kept = subst (IsKept state) (sym (view_set views b nothing (at_within views b w there)))
          (learns_keeps state (view_at views) b nothing first
          (λ j x h. (
            a,
            ap (λ u. caused u j x) joins ∙ joined_caused_second v w j x idle
                (ap (λ u. caused u j x) (sym (view_here views b w there)) ∙ h),
          ))
          (λ j h. cc)
          (λ j. nothing_known j (state j))
          (λ _. refl));
      seats = meeting_splits s.views a b v w at live alive ne there k.seats;
    }

-- ---- what the calls owe for their steps

-- a step on a row by a seat: the seat sits at the table, which has the row, and the rule of the table allows the step
abbrev Owes : Claims → Seat → ℕ → (ℕ → ℕ) → (ℕ → Sitter → Type 0) → Type 0
Owes claims seat row f then =
    let shared = claims.table.shared in
    (seat.seat.table_id ≡ shared.table_id) × (row < shared.table_id.words)
    × Allows (KeepsRule shared.key) shared.table_id.slots seat.seat.id seat.seat.me row f then

owed : (claims : Claims) (seat : Seat) (row : ℕ) (f : ℕ → ℕ) (then : ℕ → Sitter → Type 0) → IsSeatOf claims seat → row < rows_of claims
    → Allows (KeepsRule claims.rows) claims.table.shared.table_id.slots seat.seat.id seat.seat.me row f then → Owes claims seat row f then
owed claims seat row f then own within allowed =
    let words = claims.a_word_each in
    let key = claims.keyed in
    (own, rw words within, rw key allowed)

pub look_owed : (claims : Claims) (seat : Seat) (row : ℕ) → IsSeatOf claims seat → row < rows_of claims
    → Owes claims seat row (λ n. n) (TellsLook (step claims.table.shared.table_id.slots row 0 0 none) seat.seat.me)
look_owed claims seat row own within =
    owed claims seat row (λ n. n) (TellsLook (step claims.table.shared.table_id.slots row 0 0 none) seat.seat.me) own within
    (look_allowed claims.rows claims.table.shared.table_id.slots seat.seat.id row seat.seat.me within seat.live)

pub claim_owed : (claims : Claims) (seat : Seat) (row : ℕ) → IsSeatOf claims seat → row < rows_of claims
    → Owes claims seat row (λ n. either (n == 0) 1 n) (TellsClaim (step claims.table.shared.table_id.slots row 0 1 none) seat.seat.me)
claim_owed claims seat row own within =
    owed claims seat row (λ n. either (n == 0) 1 n)
    (TellsClaim (step claims.table.shared.table_id.slots row 0 1 none) seat.seat.me) own within
    (claim_allowed claims.rows claims.table.shared.table_id.slots seat.seat.id row seat.seat.me within seat.live)

pub publish_owed : (claims : Claims) (seat : Seat) (row : ℕ) → IsSeatOf claims seat → row < rows_of claims → Holds seat row
    → Owes claims seat row (λ _. 2) (λ _. TellsPublish (step claims.table.shared.table_id.slots row 2 0 none) seat.seat.me 2)
publish_owed claims seat row own within held =
    owed claims seat row (λ _. 2) (λ _. TellsPublish (step claims.table.shared.table_id.slots row 2 0 none) seat.seat.me 2) own within
    (publish_allowed claims.rows claims.table.shared.table_id.slots seat.seat.id row seat.seat.me within seat.live held)

pub void_owed : (claims : Claims) (seat : Seat) (row : ℕ) → IsSeatOf claims seat → row < rows_of claims → Holds seat row
    → Owes claims seat row (λ _. 3) (λ _. TellsVoid (step claims.table.shared.table_id.slots row 3 0 none) seat.seat.me 3)
void_owed claims seat row own within held =
    owed claims seat row (λ _. 3) (λ _. TellsVoid (step claims.table.shared.table_id.slots row 3 0 none) seat.seat.me 3) own within
    (void_allowed claims.rows claims.table.shared.table_id.slots seat.seat.id row seat.seat.me within seat.live held)
