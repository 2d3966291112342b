-- What a read of a source gives.
use Rattle.std.specs.Prelude.{ℕ, ◌≤◌, Bool, true, false, List, take}
use Rattle.cox_outside.specs.declared.source.Got.{Got}
use Rattle.cox_outside.specs.declared.source.Got.TheVariants.{Bytes, End, Failed}

-- how many bytes a read gave
abbrev pub got_count : Got → ℕ
got_count (Bytes count) = count
got_count End = 0
got_count Failed = 0

-- whether a read failed
abbrev pub got_failed : Got → Bool
got_failed (Bytes count) = false
got_failed End = false
got_failed Failed = true

-- the bytes that a read gave: the first of the buffer
abbrev pub got_bytes : Got → List ℕ → List ℕ
got_bytes got buffer = take (got_count got) buffer

-- a read that gives bytes gives at least one, and no more than there is room for
abbrev pub GotFits : Got → ℕ → Type 0
GotFits (Bytes count) room = (1 ≤ count) × (count ≤ room)
GotFits End room = Unit {0}
GotFits Failed room = Unit {0}
