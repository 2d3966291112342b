-- The table and the fill core: each step is the event that it is named after.
use Rattle.std.specs.Prelude.{◌≡◌, ◌≢◌, ℕ, ◌<◌, ◌≤◌, ◌==◌, true, false, List, [], ◌∷◌, ◌++◌, length, replicate, slice_index, slice_set}
use Rattle.std.specs.List.Sorted.{IsPermutation}
use mathlib.Core.Option.{some}
use lib.ListN.{get_elem?}
use prog.Atomic.{either}
use Rattle.atomic_table.specs.Table.{State, keeps, stepped}
use Rattle.cox_fill_core.specs.declared.event.RowState.{RowState}
use Rattle.cox_fill_core.specs.declared.event.Event.{Event}
use Rattle.cox_fill_core.specs.declared.event.Reply.{Reply}
use Rattle.cox_fill_core.specs.Fill.{Fill, opening_core, after, reply}
use Rattle.cox_fill_core.specs.Good.{IsGood}
use Rattle.cox_claims.specs.declared.view.View.{View}
use Rattle.cox_claims.specs.declared.table.Claimed.{Claimed}
use Rattle.cox_claims.specs.Knowledge.{holds, saw_published, saw_void, saw_claimed, nothing, newcomer, looked, claimed, published}
use Rattle.cox_claims.specs.Knowledge.{voided, parted, told, joined}
use Rattle.cox_claims.specs.Plays.{claim_answer}
use Rattle.cox_claims.specs.Rule.{state_at, view_at, KeepsRule}

-- the table does not know what a row needs
abbrev pub no_needs : ℕ → List ℕ
no_needs i = []

-- the state of each row and the views of the seats, of which `made` were made, show the core c
pub record IsShown (state : ℕ → RowState) (view : ℕ → View) (made : ℕ) (c : Fill) : Type 0 where
  -- each row has its state
  pub state_is : (i : ℕ) → c.state i ≡ state i
  -- each seat is an actor: it holds what its view holds, and so nothing if its view is spent
  pub holds_is : (a i : ℕ) → c.holds a i ≡ holds (view a) i
  -- a seat whose view is not spent has seen Published what its view has
  pub seen_is : (a i : ℕ) → (view a).spent ≡ false → c.seen a i ≡ saw_published (view a) i
  -- a row that a view has seen Void is Void, and one that it has seen Claimed is not Free
  pub void_is : (a i : ℕ) → saw_void (view a) i ≡ true → state i ≡ RowState.Void
  pub claimed_is : (a i : ℕ) → saw_claimed (view a) i ≡ true → state i ≢ RowState.Free
  -- a seat that is not made yet has seen nothing
  pub fresh : (a i : ℕ) → made ≤ a → c.seen a i ≡ false

abbrev pub Table : Type 0
Table = State (Unit {0}) View

abbrev pub Shows : Table → Fill → Type 0
Shows s c = IsShown (state_at s.words) (view_at s.views) (length s.views) c

-- the table s becomes the table t, which keeps the rule: whichever good core s shows, t shows that core after the event e, whose reply is r
pub record IsEvent (rows : ℕ) (s t : Table) (e : Event) (r : Reply) : Type 0 where
  pub rule : KeepsRule rows t
  pub good : (c : Fill) → IsGood no_needs c → Shows s c → IsGood no_needs (after no_needs c e)
  pub shown : (c : Fill) → IsGood no_needs c → Shows s c → Shows t (after no_needs c e)
  pub reply_is : (c : Fill) → IsGood no_needs c → Shows s c → reply no_needs c e ≡ r

-- seat a has the view v, which is not spent
pub record Sits (s : Table) (a : ℕ) (v : View) : Type 0 where
  pub at : get_elem? s.views a ≡ some v
  pub live : v.spent ≡ false

-- the table after word i became n and the view of seat a became w
abbrev pub moved : Table → ℕ → ℕ → ℕ → View → Table
moved s i n a w = stepped s i n a [] w keeps

-- the table after seat a, whose view was v, was split
abbrev pub after_split : Table → ℕ → View → Table
after_split s a v = record s { views = slice_set s.views a (parted v) ++ told v ∷ [] }

-- the table after seat a, whose view was v, met seat b, whose view was w
abbrev pub after_meeting : Table → ℕ → View → ℕ → View → Table
after_meeting s a v b w = record s { views = slice_set (slice_set s.views a (joined v w)) b nothing }

-- the table at the start: all rows Free, and one seat
abbrev pub fresh_table : ℕ → Table
fresh_table rows = record { words = replicate rows 0; homes = []; views = newcomer ∷ [] }

-- the reply that a claim's answer stands for
abbrev pub claim_reply : Claimed → Reply
claim_reply Claimed.Won = Reply.Won
claim_reply (Claimed.Lost x) = Reply.Lost x

-- of a table of this many rows
pub record StepsAreEvents (rows : ℕ) : Type 0 where
  -- the fresh table keeps the rule and shows the opening
  pub start : KeepsRule rows (fresh_table rows) × Shows (fresh_table rows) opening_core
  -- every table under the rule shows a good core
  pub shows : (s : Table) → KeepsRule rows s → (c : Fill) × IsGood no_needs c × Shows s c
  -- a load of word i, and a compare-exchange of it from 0 to 1
  pub look : (s : Table) (a i : ℕ) (v : View) → KeepsRule rows s → i < rows → Sits s a v
      → IsEvent rows s (moved s i (slice_index s.words i) a (looked v i (state_at s.words i))) (Event.Look a i)
      (Reply.Seen (state_at s.words i))
  pub claim : (s : Table) (a i : ℕ) (v : View) → KeepsRule rows s → i < rows → Sits s a v
      → IsEvent rows s (moved s i (either (slice_index s.words i == 0) 1 (slice_index s.words i)) a (claimed v i (state_at s.words i)))
      (Event.Claim a i) (claim_reply (claim_answer (slice_index s.words i)))
  -- a store of 2 or 3 to word i, by the seat that holds row i
  pub publish : (s : Table) (a i : ℕ) (v : View) → KeepsRule rows s → i < rows → Sits s a v → holds v i ≡ true
      → IsEvent rows s (moved s i 2 a (published v i)) (Event.Publish a i) Reply.Made
  pub void : (s : Table) (a i : ℕ) (v : View) → KeepsRule rows s → i < rows → Sits s a v → holds v i ≡ true
      → IsEvent rows s (moved s i 3 a (voided v i)) (Event.Void a i) Reply.Voided
  -- a split, which makes the next seat, and a meeting with a seat that holds nothing and is spent from then on
  pub split : (s : Table) (a : ℕ) (v : View) → KeepsRule rows s → Sits s a v
      → IsEvent rows s (after_split s a v) (Event.Tell a (length s.views)) Reply.Told
  pub meet : (s : Table) (a b : ℕ) (v w : View) → KeepsRule rows s → Sits s a v → Sits s b w → b ≢ a → w.held ≡ []
      → IsEvent rows s (after_meeting s a v b w) (Event.Tell b a) Reply.Told

-- two tables under the rule whose seats have the same views have the same words: what a step does to the views is all that it does
abbrev pub ViewsTellWords : ℕ → Type 0
ViewsTellWords rows = (s t : Table) → KeepsRule rows s → KeepsRule rows t → s.views ≡ t.views → s.words ≡ t.words

-- a table under the rule whose first seat has the view of the start is the table at the start
abbrev pub StartsFree : ℕ → Type 0
StartsFree rows = (s : Table) → KeepsRule rows s → get_elem? s.views 0 ≡ some newcomer
    → (s.words ≡ replicate rows 0) × (s.views ≡ newcomer ∷ [])

-- a table under the rule whose seats have the views of another's, in any order, and more, has no more: no step makes a seat that is counted
-- in no view
abbrev pub HasNoMoreSeats : ℕ → Type 0
HasNoMoreSeats rows = (s t : Table) → KeepsRule rows s → KeepsRule rows t → (more : List View) → IsPermutation t.views (s.views ++ more)
    → more ≡ []
