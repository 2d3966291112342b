-- What a write to a sink takes.
use Rattle.std.specs.Prelude.{ℕ, ◌≤◌, Bool, true, false}
use Rattle.cox_outside.specs.declared.sink.Took.{Took}
use Rattle.cox_outside.specs.declared.sink.Took.TheVariants.{Bytes, Failed}

-- how many bytes a write took
abbrev pub took_count : Took → ℕ
took_count (Bytes count) = count
took_count Failed = 0

-- whether a write failed
abbrev pub took_failed : Took → Bool
took_failed (Bytes count) = false
took_failed Failed = true

-- a write that takes bytes takes at least one, and no more than it was given
abbrev pub TookFits : Took → ℕ → Type 0
TookFits (Bytes count) given = (1 ≤ count) × (count ≤ given)
TookFits Failed given = Unit {0}
