-- A count of polynomials that are added up.
use Rattle.std.specs.Prelude.{ℕ, ◌+◌, ◌-◌, ◌^◌, min}

-- a count after some polynomials more; it stands still at the end of its 64 bits
abbrev pub counted : ℕ → ℕ → ℕ
counted old more = min (old + more) (2 ^ 64 - 1)
