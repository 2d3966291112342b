-- Sets of letters by bits: bit s - 1 for the letter s.
use Rattle.std.specs.Prelude.{◌≡◌, ℕ, ◌+◌, ◌-◌, ◌/◌, ◌^◌, ◌<◌, ◌==◌, ◌↔◌, Bool, true, false, nat_lt, List, length, slice_index, Option}
use Rattle.std.specs.Prelude.{None, Some}
use Rattle.std.specs.Prelude.{bit_and, IsBitSet}
use Rattle.cox_context.specs.Shifts.{entry}

-- whether a shift takes member i to a member before it
abbrev pub is_lower : ℕ → Option ℕ → Bool
is_lower i None = false
is_lower i (Some k) = nat_lt k i

-- whether a letter is in a set
unfoldable pub has_letter : ℕ → ℕ → Bool
has_letter set s = bit_and (set / 2 ^ (s - 1)) 1 == 1

-- the set of the letters before next that take member i to a member before it
pub record IsLoweringSet (rank : ℕ) (table : List ℕ) (i next set : ℕ) : Type 0 where
  pub bit : (k : ℕ) → IsBitSet set k ↔ ((k + 1 < next) × (is_lower i (entry rank table (k + 1) i) ≡ true))

-- that set for each of so many members
pub record AreLoweringSets (rank : ℕ) (table : List ℕ) (count : ℕ) (sets : List ℕ) : Type 0 where
  pub size : length sets ≡ count
  pub each : (i : ℕ) → i < count → IsLoweringSet rank table i (rank + 1) (slice_index sets i)
