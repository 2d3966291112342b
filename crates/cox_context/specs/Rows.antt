-- A row of a table of shifts, appended letter by letter; and a table that is cut back to its first rows.
use Rattle.std.specs.Prelude.{◌≡◌, ℕ, ◌+◌, ◌-◌, ◌*◌, ◌<◌, List, length, slice_index, Option, None, Some, nat_lt, if◌then◌else◌}
use Rattle.cox_base.specs.Matrix.{IsLetter}
use Rattle.cox_context.specs.Shifts.{entry, entry_number}

-- The new table has the old entries and, for the letters before next, those of the member n, which are given. Where such an entry is k,
-- that of the member k for the letter is n.
pub record IsRowPushed (rank n : ℕ) (lower : List ℕ) (next : ℕ) (old new : List ℕ) : Type 0 where
  pub size : length new ≡ n * rank + (next - 1)
  pub row : (t : ℕ) → IsLetter rank t → t < next → entry rank new t n ≡ entry rank lower t 0
  pub back : (t k : ℕ) → IsLetter rank t → t < next → entry rank lower t 0 ≡ Some k → entry rank new t k ≡ Some n
  pub kept : (t j : ℕ) → IsLetter rank t → j < n → (t < next → entry rank lower t 0 ≡ Some j → ⊥) → entry rank new t j ≡ entry rank old t j

-- a number below a bound, or none
abbrev pub number_below : ℕ → Option ℕ → Option ℕ
number_below count None = None
number_below count (Some k) = if nat_lt k count then Some k else None

-- the first entries, so many, of which those that lead to a member from the number count on say that there is none
pub record IsCutBack (most count : ℕ) (old new : List ℕ) : Type 0 where
  pub size : length new ≡ most
  pub each : (k : ℕ) → k < most → entry_number (slice_index new k) ≡ number_below count (entry_number (slice_index old k))
