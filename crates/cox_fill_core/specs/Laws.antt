-- What holds of every list of events from the opening.
use Rattle.std.specs.Prelude.{◌≡◌, ◌≢◌, ℕ, ◌≤◌, true, false, List, [], ◌∷◌, ◌++◌, ◌⊎◌, Contains}
use Rattle.cox_fill_core.specs.declared.event.RowState.{RowState}
use Rattle.cox_fill_core.specs.declared.event.Event.{Event}
use Rattle.cox_fill_core.specs.declared.event.Reply.{Reply}
use Rattle.cox_fill_core.specs.Fill.{Fill, opening_core, after, reply, after_all}
use Rattle.cox_fill_core.specs.Good.{IsGood}

-- among these events, from the core c on, e came and had the reply r
abbrev pub HappenedFrom : (ℕ → List ℕ) → Fill → List Event → Event → Reply → Type 0
HappenedFrom needs c [] e r = ⊥
HappenedFrom needs c (x ∷ xs) e r = ((x ≡ e) × (reply needs c x ≡ r)) ⊎ HappenedFrom needs (after needs c x) xs e r

-- among these events, from the opening on, e came and had the reply r
abbrev pub Happened : (ℕ → List ℕ) → List Event → Event → Reply → Type 0
Happened needs events e r = HappenedFrom needs opening_core events e r

-- the core after these events, from the opening on
abbrev pub reached : (ℕ → List ℕ) → List Event → Fill
reached needs events = after_all needs opening_core events

-- the reply to e after these events, from the opening on
abbrev pub reply_after : (ℕ → List ℕ) → List Event → Event → Reply
reply_after needs events e = reply needs (reached needs events) e

-- the opening is good, and each event keeps a good core state good
pub record KeepsGood (needs : ℕ → List ℕ) : Type 0 where
  pub start : IsGood needs opening_core
  pub event : (c : Fill) (e : Event) → IsGood needs c → IsGood needs (after needs c e)

-- each core state that events lead to is good
abbrev pub StaysGood : (ℕ → List ℕ) → Type 0
StaysGood needs = (events : List Event) → IsGood needs (reached needs events)

-- once a claim has won row i, row i is never Free again, and every later claim on it is lost
pub record StaysWon (needs : ℕ → List ℕ) (events : List Event) (i : ℕ) : Type 0 where
  pub state : (reached needs events).state i ≢ RowState.Free
  pub lost : (b : ℕ) → reply_after needs events (Event.Claim b i) ≡ Reply.Lost ((reached needs events).state i)
  pub not_won : (b : ℕ) → reply_after needs events (Event.Claim b i) ≢ Reply.Won

abbrev pub IsWonOnce : (ℕ → List ℕ) → Type 0
IsWonOnce needs = (before between : List Event) (a i : ℕ)
    → reply_after needs before (Event.Claim a i) ≡ Reply.Won
    → StaysWon needs (before ++ Event.Claim a i ∷ between) i

-- actor a may publish row i after these events: it won the row and did not void it, it has seen all that the row needs, and each
-- of that was made before
pub record HasEarned (needs : ℕ → List ℕ) (events : List Event) (a i : ℕ) : Type 0 where
  pub won : Happened needs events (Event.Claim a i) Reply.Won
  pub not_voided : ¬ Happened needs events (Event.Void a i) Reply.Voided
  pub seen : (j : ℕ) → Contains (needs i) j → (reached needs events).seen a j ≡ true
  pub made : (j : ℕ) → Contains (needs i) j → (b : ℕ) × Happened needs events (Event.Publish b j) Reply.Made

abbrev pub IsMadeByWinner : (ℕ → List ℕ) → Type 0
IsMadeByWinner needs = (events : List Event) (a i : ℕ)
    → reply_after needs events (Event.Publish a i) ≡ Reply.Made
    → HasEarned needs events a i

-- row j is the least that row i needs and that actor a has not seen Published after these events
pub record IsLeastMissing (needs : ℕ → List ℕ) (events : List Event) (a i j : ℕ) : Type 0 where
  pub needed : Contains (needs i) j
  pub unseen : (reached needs events).seen a j ≡ false
  pub least : (k : ℕ) → Contains (needs i) k → (reached needs events).seen a k ≡ false → j ≤ k

-- a publication that is refused for a missing row names the least one
abbrev pub MissesLeast : (ℕ → List ℕ) → Type 0
MissesLeast needs = (events : List Event) (a i j : ℕ)
    → reply_after needs events (Event.Publish a i) ≡ Reply.Missing j
    → IsLeastMissing needs events a i j

-- after these events row i has the state x, and whoever asks is told so
pub record IsForGood (needs : ℕ → List ℕ) (events : List Event) (i : ℕ) (x : RowState) : Type 0 where
  pub state : (reached needs events).state i ≡ x
  pub claim : (b : ℕ) → reply_after needs events (Event.Claim b i) ≡ Reply.Lost x
  pub look : (b : ℕ) → reply_after needs events (Event.Look b i) ≡ Reply.Seen x
  pub publish : (b : ℕ) → reply_after needs events (Event.Publish b i) ≡ Reply.NotYours
  pub void : (b : ℕ) → reply_after needs events (Event.Void b i) ≡ Reply.NotYours

-- once made, a row is Published for good
abbrev pub IsPublishedForGood : (ℕ → List ℕ) → Type 0
IsPublishedForGood needs = (before later : List Event) (a i : ℕ)
    → reply_after needs before (Event.Publish a i) ≡ Reply.Made
    → IsForGood needs (before ++ Event.Publish a i ∷ later) i RowState.Published

-- once voided, a row is Void for good
abbrev pub IsVoidForGood : (ℕ → List ℕ) → Type 0
IsVoidForGood needs = (before later : List Event) (a i : ℕ)
    → reply_after needs before (Event.Void a i) ≡ Reply.Voided
    → IsForGood needs (before ++ Event.Void a i ∷ later) i RowState.Void

-- an actor has seen a row Published once a claim or a look told it so, once it made the row itself, or once another that had seen it told
-- it; from then on the row stays so, whoever asks, and the actor has seen it for good
pub record SeenStays (needs : ℕ → List ℕ) : Type 0 where
  pub by_claim : (events : List Event) (a i : ℕ) → reply_after needs events (Event.Claim a i) ≡ Reply.Lost RowState.Published
      → (reached needs (events ++ Event.Claim a i ∷ [])).seen a i ≡ true
  pub by_look : (events : List Event) (a i : ℕ) → reply_after needs events (Event.Look a i) ≡ Reply.Seen RowState.Published
      → (reached needs (events ++ Event.Look a i ∷ [])).seen a i ≡ true
  pub by_publish : (events : List Event) (a i : ℕ) → reply_after needs events (Event.Publish a i) ≡ Reply.Made
      → (reached needs (events ++ Event.Publish a i ∷ [])).seen a i ≡ true
  pub by_tell : (events : List Event) (a b i : ℕ) → (reached needs events).seen a i ≡ true
      → (reached needs (events ++ Event.Tell a b ∷ [])).seen b i ≡ true
  pub settled : (before later : List Event) (a i : ℕ) → (reached needs before).seen a i ≡ true
      → IsForGood needs (before ++ later) i RowState.Published
  pub stays : (before later : List Event) (a i : ℕ) → (reached needs before).seen a i ≡ true
      → (reached needs (before ++ later)).seen a i ≡ true
