-- Rows that are moved into a store.
use Rattle.std.specs.Prelude.{◌⊎◌, ℕ}
use Rattle.cox_claims.specs.declared.seat.Seat.{Seat}
use Rattle.cox_claims.specs.Seats.{HasSeen, HasSeenVoid, HasSeenClaimed}

-- the seat has seen row i Published, or Void, or Claimed by another: it is not Free any more
abbrev pub IsSeenTaken : Seat → ℕ → Type 0
IsSeenTaken seat i = HasSeen seat i ⊎ (HasSeenVoid seat i ⊎ HasSeenClaimed seat i)
