-- What contracts see of a feed of single bytes.
use Rattle.std.specs.Prelude.{◌≡◌, ℕ, ◌<◌, ◌≤◌, Bool, true, false, List, [], ◌∷◌, length, Option}
use Rattle.std.specs.Io.KnownBytes.{prepend_known}
use Rattle.cox_outside.specs.declared.limits.TheConstants.{CHUNK_SIZE}
use Rattle.cox_outside.specs.declared.byte_feed.Came.{Came}
use Rattle.cox_outside.specs.declared.byte_feed.Came.TheVariants.{Byte, End, Failed, Limit}

-- the bytes that were read and not handed out, and how many may be handed out, these included
pub record Feed : Type 0 where
  pub pending : List ℕ
  pub budget : ℕ

-- the bytes that lie ahead, where the source tells those that it has left
abbrev pub bytes_ahead : Feed → Option (List ℕ) → Option (List ℕ)
bytes_ahead feed left = prepend_known feed.pending left

-- the bytes that came
abbrev pub came_bytes : Came → List ℕ
came_bytes (Byte byte) = byte ∷ []
came_bytes End = []
came_bytes Failed = []
came_bytes (Limit byte) = byte ∷ []

-- what they cost of the budget
abbrev pub came_cost : Came → ℕ
came_cost (Byte byte) = 1
came_cost End = 0
came_cost Failed = 0
came_cost (Limit byte) = 0

-- whether a read failed
abbrev pub came_failed : Came → Bool
came_failed (Byte byte) = false
came_failed End = false
came_failed Failed = true
came_failed (Limit byte) = false

-- fewer bytes than a chunk were read and not handed out, and no more than may be
abbrev pub HasFewPending : List ℕ → ℕ → Type 0
HasFewPending pending budget = (length pending < CHUNK_SIZE) × (length pending ≤ budget)

-- all that was read is handed out, unless a byte came
abbrev pub IsDrainedUnless : Came → List ℕ → Type 0
IsDrainedUnless (Byte byte) pending = Unit {0}
IsDrainedUnless End pending = pending ≡ []
IsDrainedUnless Failed pending = pending ≡ []
IsDrainedUnless (Limit byte) pending = pending ≡ []

-- only where the budget is spent a byte comes that is over the limit
abbrev pub LimitIsSpent : Came → ℕ → Type 0
LimitIsSpent (Byte byte) budget = Unit {0}
LimitIsSpent End budget = Unit {0}
LimitIsSpent Failed budget = Unit {0}
LimitIsSpent (Limit byte) budget = budget ≡ 0
