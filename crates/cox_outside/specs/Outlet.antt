-- What is known of a sink, and what is written to it.
use Rattle.std.specs.Prelude.{◌≡◌, ℕ, ◌+◌, Bool, List, ◌++◌, length, Option}
use Rattle.std.specs.Option.{option_map}
use Rattle.std.specs.Io.KnownBytes.{append_known}
use Rattle.cox_outside.specs.FaultCount.{count_after}

-- the bytes written and the number of bytes that there is room for, where the sink tells them, and the number of its faults
pub record Outlet : Type 0 where
  pub written : Option (List ℕ)
  pub room : Option ℕ
  pub faults : ℕ

-- room for so many bytes more, where it is told
abbrev pub more_room : ℕ → Option ℕ → Option ℕ
more_room count room = option_map (λ left. left + count) room

-- these bytes were written behind what was there, and their room is gone
pub record Writes (bytes : List ℕ) (old new : Outlet) : Type 0 where
  pub written : new.written ≡ append_known old.written bytes
  pub room : old.room ≡ more_room (length bytes) new.room

-- the whole begins with the prefix
abbrev pub IsPrefix : {X : Type 0} → List X → List X → Type 0
IsPrefix {X = X} prefix whole = (rest : List X) × (whole ≡ prefix ++ rest)

-- the count of faults rises by one exactly where a call tells of a fault
abbrev pub SinkCause : Outlet → Outlet → Bool → Type 0
SinkCause old new told = new.faults ≡ count_after told old.faults
