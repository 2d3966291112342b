-- A seat as callers see it.
use Rattle.std.specs.Prelude.{◌≡◌, ◌⊎◌, ℕ, ◌+◌, ◌-◌, ◌^◌, ◌<◌, min, true, [], Option, Some}
use Rattle.atomic_table.specs.Seated.{TableId}
use Rattle.cox_fill_core.specs.declared.event.RowState.{RowState}
use Rattle.cox_claims.specs.declared.view.View.{View}
use Rattle.cox_claims.specs.declared.seat.Seat.{Seat}
use Rattle.cox_claims.specs.Knowledge.{holds, saw_published, saw_void, saw_claimed, marked}

-- the table that the seat sits at, and its number there
abbrev pub table_of : Seat → TableId
table_of seat = seat.seat.table_id

abbrev pub number_of : Seat → ℕ
number_of seat = seat.seat.id

-- what the seat knows
abbrev pub view_of : Seat → View
view_of seat = seat.seat.me.0

-- the seat's count of splits
abbrev pub splits_of : Seat → ℕ
splits_of seat = seat.splits

-- a count of splits with one more, which stays at the greatest number of 64 bits
abbrev pub one_more_split : ℕ → ℕ
one_more_split n = min (n + 1) (2 ^ 64 - 1)

-- the seat holds row i by a claim
abbrev pub Holds : Seat → ℕ → Type 0
Holds seat i = holds (view_of seat) i ≡ true

abbrev pub HoldsNothing : Seat → Type 0
HoldsNothing seat = (view_of seat).held ≡ []

-- each row that the seat holds has a greater number than i
abbrev pub HoldsBeyond : Seat → ℕ → Type 0
HoldsBeyond seat i = (j : ℕ) → Holds seat j → i < j

-- the seat has seen row i Published, or Void, or Claimed by another
abbrev pub HasSeen : Seat → ℕ → Type 0
HasSeen seat i = saw_published (view_of seat) i ≡ true

abbrev pub HasSeenVoid : Seat → ℕ → Type 0
HasSeenVoid seat i = saw_void (view_of seat) i ≡ true

abbrev pub HasSeenClaimed : Seat → ℕ → Type 0
HasSeenClaimed seat i = saw_claimed (view_of seat) i ≡ true

-- the seat has seen row i Published or Void
abbrev pub HasSeenEnd : Seat → ℕ → Type 0
HasSeenEnd seat i = HasSeen seat i ⊎ HasSeenVoid seat i

-- the seat voided row i itself
abbrev pub HasMarked : Seat → ℕ → Type 0
HasMarked seat i = marked (view_of seat) i ≡ true

-- the row and the state of the seat's last look or lost claim, and how many of these there were
abbrev pub last_read : Seat → Option (ℕ × RowState)
last_read seat = (view_of seat).last

abbrev pub reads_of : Seat → ℕ
reads_of seat = (view_of seat).reads

-- the same seat: its table, and its number there
pub record IsSameSeat (old new : Seat) : Type 0 where
  pub table : table_of new ≡ table_of old
  pub number : number_of new ≡ number_of old

-- the seat was told the state x of row i: that is its last read, and it counts one read more
pub record Reads (old : Seat) (i : ℕ) (x : RowState) (new : Seat) : Type 0 where
  pub last : last_read new ≡ Some (i, x)
  pub count : reads_of new ≡ reads_of old + 1
