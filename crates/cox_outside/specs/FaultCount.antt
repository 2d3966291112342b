-- Counts of faults, which stop at the last value of a `u64`.
use Rattle.std.specs.Prelude.{ℕ, ◌+◌, ◌-◌, ◌^◌, min, Bool, if◌then◌else◌}

-- the last value of a count, at which it stays
abbrev pub last_count : ℕ
last_count = 2 ^ 64 - 1

-- a count of faults after a call that failed or did not
abbrev pub count_after : Bool → ℕ → ℕ
count_after failed count = if failed then min (count + 1) last_count else count
