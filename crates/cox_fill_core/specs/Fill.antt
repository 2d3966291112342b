-- The fill core as plain data: the state of each row, who holds it, who has seen it Published, and what an event does to them.
use Rattle.std.specs.Prelude.{ℕ, min, Bool, true, false, ◌&&◌, ◌||◌, ◌==◌, not, is_none, if◌then◌else◌, List, [], ◌∷◌, filter}
use Rattle.std.specs.Prelude.{Option, Some, None}
use Rattle.cox_fill_core.specs.declared.event.RowState.{RowState}
use Rattle.cox_fill_core.specs.declared.event.Event.{Event}
use Rattle.cox_fill_core.specs.declared.event.Reply.{Reply}

-- the rows by number, and what actor a holds and has seen Published, by actor and row
pub record Fill : Type 0 where
  pub state : ℕ → RowState
  pub holds : ℕ → ℕ → Bool
  pub seen : ℕ → ℕ → Bool

-- all rows are Free, and nobody holds or has seen a row
abbrev pub opening_core : Fill
opening_core = record { state = λ _. RowState.Free; holds = λ _ _. false; seen = λ _ _. false }

-- f with the value x at i
abbrev pub put : {X : Type 0} → (ℕ → X) → ℕ → X → ℕ → X
put f i x = λ j. if j == i then x else f j

-- f with the value x at actor a and row i
abbrev pub put_at : {X : Type 0} → (ℕ → ℕ → X) → ℕ → ℕ → X → ℕ → ℕ → X
put_at f a i x = put f a (put (f a) i x)

abbrev pub is_free : RowState → Bool
is_free RowState.Free = true
is_free _ = false

abbrev pub is_published : RowState → Bool
is_published RowState.Published = true
is_published _ = false

-- the lesser of x and what may be there
abbrev pub least_with : ℕ → Option ℕ → ℕ
least_with x None = x
least_with x (Some y) = min x y

-- the least of these numbers
abbrev pub least : List ℕ → Option ℕ
least [] = None
least (x ∷ xs) = Some (least_with x (least xs))

-- the least row that row i needs and that actor a has not seen Published
abbrev pub missing : (ℕ → List ℕ) → Fill → ℕ → ℕ → Option ℕ
missing needs c a i = least (filter (λ j. not (c.seen a j)) (needs i))

-- actor a holds row i, and has seen Published all that the row needs
abbrev pub can_publish : (ℕ → List ℕ) → Fill → ℕ → ℕ → Bool
can_publish needs c a i = c.holds a i && is_none (missing needs c a i)

-- actor a was told the state of row i: it has seen the row if that is Published
abbrev pub noticed : Fill → ℕ → ℕ → Fill
noticed c a i = record c { seen = put_at c.seen a i (c.seen a i || is_published (c.state i)) }

-- actor a claims row i, which is Free
abbrev pub after_claim : Fill → ℕ → ℕ → Fill
after_claim c a i = record c { state = put c.state i RowState.Claimed; holds = put_at c.holds a i true }

-- actor a, which holds row i, publishes it
abbrev pub after_publication : Fill → ℕ → ℕ → Fill
after_publication c a i =
    record { state = put c.state i RowState.Published; holds = put_at c.holds a i false; seen = put_at c.seen a i true }

-- actor a, which holds row i, voids it
abbrev pub after_void : Fill → ℕ → ℕ → Fill
after_void c a i = record c { state = put c.state i RowState.Void; holds = put_at c.holds a i false }

-- actor b has seen, beside its own, what actor a has
abbrev pub after_tell : Fill → ℕ → ℕ → Fill
after_tell c a b = record c { seen = put c.seen b (λ i. c.seen b i || c.seen a i) }

-- the core after an event; `needs` gives the rows that a row needs
abbrev pub after : (ℕ → List ℕ) → Fill → Event → Fill
after needs c (Event.Claim a i) = if is_free (c.state i) then after_claim c a i else noticed c a i
after needs c (Event.Look a i) = noticed c a i
after needs c (Event.Publish a i) = if can_publish needs c a i then after_publication c a i else c
after needs c (Event.Void a i) = if c.holds a i then after_void c a i else c
after needs c (Event.Tell a b) = after_tell c a b

-- what a holder that publishes is told
abbrev pub publish_reply : Option ℕ → Reply
publish_reply None = Reply.Made
publish_reply (Some j) = Reply.Missing j

-- the reply to an event
abbrev pub reply : (ℕ → List ℕ) → Fill → Event → Reply
reply needs c (Event.Claim a i) = if is_free (c.state i) then Reply.Won else Reply.Lost (c.state i)
reply needs c (Event.Look a i) = Reply.Seen (c.state i)
reply needs c (Event.Publish a i) = if c.holds a i then publish_reply (missing needs c a i) else Reply.NotYours
reply needs c (Event.Void a i) = if c.holds a i then Reply.Voided else Reply.NotYours
reply needs c (Event.Tell a b) = Reply.Told

-- the core after a list of events
abbrev pub after_all : (ℕ → List ℕ) → Fill → List Event → Fill
after_all needs c [] = c
after_all needs c (e ∷ es) = after_all needs (after needs c e) es

-- the replies to a list of events, in order
abbrev pub replies : (ℕ → List ℕ) → Fill → List Event → List Reply
replies needs c [] = []
replies needs c (e ∷ es) = reply needs c e ∷ replies needs (after needs c e) es
