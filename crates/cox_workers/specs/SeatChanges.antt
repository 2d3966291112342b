-- What a worker does to its seat while it makes the row of a member.
use Rattle.std.specs.Prelude.{◌≡◌, ◌⊎◌, ℕ, ◌<◌, ◌≤◌, length, true, false, ◌||◌, ℤ}
use Rattle.cox_base.specs.IntegerMatrix.{integer_matrix}
use Rattle.cox_hecke.specs.Needs.{IsNeeded}
use Rattle.cox_context.specs.Closed.{Elements}
use Rattle.cox_context.specs.Numbers.{word_at}
use Rattle.cox_row_builder.specs.declared.fault.StepFault.{StepFault}
use Rattle.cox_row_builder.specs.Faults.{IsFault}
use Rattle.cox_klstep.specs.NeedsOf.{HasNeeds}
use Rattle.cox_claims.specs.declared.seat.Seat.{Seat}
use Rattle.cox_claims.specs.Knowledge.{SeesAll, TellsSameSeats, has_published, has_voided}
use Rattle.cox_claims.specs.Seats.{view_of, splits_of, IsSameSeat, Holds, HasSeen, HasSeenVoid}
use Rattle.cox_workers.specs.declared.missing.Missing.{Missing}
use Rattle.cox_workers.specs.declared.missing.Missing.TheVariants.{Void, Fault}

-- the row of member j is one of Need(w), where w is member i
pub record IsNeededAt (e : Elements) (i j : ℕ) : Type 0 where
  pub within : j < length e.members
  pub needed : IsNeeded (integer_matrix e.matrix) (word_at e.members i) (word_at e.members j)

-- each row that the seat holds has the number i or a greater one
abbrev pub HoldsFrom : Seat → ℕ → Type 0
HoldsFrom seat i = (j : ℕ) → Holds seat j → i ≤ j

-- the seat published or voided row j, or one that it met did
abbrev pub HasEnded : Seat → ℕ → Type 0
HasEnded seat j = (has_published (view_of seat) j || has_voided (view_of seat) j) ≡ true

-- of each row that the seat, or one that it met, has published since: in the end the seat has seen Published all rows that this one is
-- made from
abbrev pub MadeOfSeen : Elements → Seat → Seat → Type 0
MadeOfSeen e old new = (j : ℕ) → has_published (view_of new) j ≡ true → (has_published (view_of old) j ≡ true) ⊎ HasNeeds e (HasSeen new) j

-- it is the same seat, none was split from it, and it met none; it holds what it held and has seen what it had seen; it has voided and
-- published rows of Need(w) alone, where w is member i, and of each row that it published it has seen Published all rows that this one is
-- made from
pub record IsSeatKept (e : Elements) (i : ℕ) (old new : Seat) : Type 0 where
  pub same : IsSameSeat old new
  pub splits : splits_of new ≡ splits_of old
  pub seats : TellsSameSeats (view_of old) (view_of new)
  pub held : (view_of new).held ≡ (view_of old).held
  pub seen : SeesAll (view_of old) (view_of new)
  pub ended : (j : ℕ) → HasEnded new j → HasEnded old j ⊎ IsNeededAt e i j
  pub made : MadeOfSeen e old new

-- the seat, and those that it met, have voided no row since
abbrev pub VoidsNone : Seat → Seat → Type 0
VoidsNone old new = (view_of new).given_up ≡ (view_of old).given_up

-- row j is needed, and the seat has seen it Void, and did not void it
pub record IsVoid (e : Elements) (i j : ℕ) (old new : Seat) : Type 0 where
  pub needed : IsNeededAt e i j
  pub void : HasSeenVoid new j
  pub mark : has_voided (view_of new) j ≡ has_voided (view_of old) j

-- row j is needed, and the seat has voided it for this fault
pub record IsGivenUp (e : Elements) (limit : ℤ) (i j : ℕ) (fault : StepFault) (old new : Seat) : Type 0 where
  pub needed : IsNeededAt e i j
  pub is : IsFault (integer_matrix e.matrix) e.members limit (λ w. w ≡ j) fault
  pub void : HasSeenVoid new j
  pub now : has_voided (view_of new) j ≡ true
  pub before : has_voided (view_of old) j ≡ false

-- why the row of member i is not there
abbrev pub IsRowMissing : Elements → ℤ → ℕ → Seat → Seat → Missing → Type 0
IsRowMissing e limit i old new (Void j) = IsVoid e i j old new
IsRowMissing e limit i old new (Fault fault) = (j : ℕ) × IsGivenUp e limit i j fault old new

-- why the row of member i, which the seat held, was not made: either some other row that it needs is missing, or there is a fault with
-- itself
abbrev pub IsUnmade : Elements → ℤ → ℕ → Seat → Seat → Missing → Type 0
IsUnmade e limit i old new missing = IsRowMissing e limit i old new missing
    ⊎ ((fault : StepFault) × (missing ≡ Fault fault) × IsFault (integer_matrix e.matrix) e.members limit (λ w. w ≡ i) fault)
