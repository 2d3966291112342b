-- A `Core` as plain data, and what an event does to it.
use Rattle.std.specs.Prelude.{◌≡◌, ◌≢◌, ℕ, ◌<◌, List, vec_len}
use Rattle.cox_fill_core.specs.declared.event.Event.{Event}
use Rattle.cox_fill_core.specs.declared.machine.Core.{Core}
use Rattle.cox_fill_core.specs.declared.event.Reply.{Reply}
use Rattle.cox_fill_core.specs.Fill.{Fill, after, reply}
use Rattle.cox_fill_core.specs.Parts.{rows_at, listed_fill}

-- how many rows and how many actors there are
abbrev pub row_count : Core → ℕ
row_count core = vec_len core.needs

abbrev pub actor_count : Core → ℕ
actor_count core = vec_len core.seen

-- the rows that each row needs
abbrev pub needs_of : Core → ℕ → List ℕ
needs_of core = rows_at core.needs.items

-- the state of each row, who holds it, and who has seen it Published
abbrev pub fill_of : Core → Fill
fill_of core = listed_fill core.states.items core.holders.items core.seen.items

-- the event names actors and rows of the core, and a Tell two different actors
abbrev pub IsEventInRange : Core → Event → Type 0
IsEventInRange core (Event.Claim a i) = (a < actor_count core) × (i < row_count core)
IsEventInRange core (Event.Look a i) = (a < actor_count core) × (i < row_count core)
IsEventInRange core (Event.Publish a i) = (a < actor_count core) × (i < row_count core)
IsEventInRange core (Event.Void a i) = (a < actor_count core) × (i < row_count core)
IsEventInRange core (Event.Tell a b) = (a < actor_count core) × (b < actor_count core) × (a ≢ b)

-- no event changes what rows need, nor how many rows and actors there are
pub record HasSameShape (old new : Core) : Type 0 where
  pub needs : needs_of new ≡ needs_of old
  pub rows : row_count new ≡ row_count old
  pub actors : actor_count new ≡ actor_count old

-- the core takes the event, and replies
pub record TakesEvent (old new : Core) (event : Event) (answer : Reply) : Type 0 where
  pub reply_is : answer ≡ reply (needs_of old) (fill_of old) event
  pub state : fill_of new ≡ after (needs_of old) (fill_of old) event
  pub shape : HasSameShape old new
