-- The parts of a `Core`, without the struct itself.
use Rattle.std.specs.Prelude.{◌≡◌, ◌≢◌, ℕ, ◌<◌, min, Bool, false, ◌||◌, ◌==◌, List, [], map, length, slice_index_or, Option, Some}
use Rattle.std.specs.Prelude.{None, Contains, Vec, vec_items}
use Rattle.cox_fill_core.specs.declared.event.RowState.{RowState}
use Rattle.cox_fill_core.specs.Fill.{Fill}

-- the list of each number, and none past the end
abbrev pub rows_at : List (List ℕ) → ℕ → List ℕ
rows_at lists i = slice_index_or lists i []

-- the rows that each row needs, as they were given
abbrev pub given_needs : {Z : Type 0} → List (Vec ℕ Z) → ℕ → List ℕ
given_needs vectors = rows_at (map vec_items vectors)

-- each needed row has a smaller number than the row that needs it
abbrev pub NeedsLower : (ℕ → List ℕ) → Type 0
NeedsLower needs = (i j : ℕ) → Contains (needs i) j → j < i

-- the holder is actor a
abbrev pub is_held_by : ℕ → Option ℕ → Bool
is_held_by a None = false
is_held_by a (Some b) = b == a

-- the core whose rows, holders and marks stand in these lists
abbrev pub listed_fill : List RowState → List (Option ℕ) → List (List Bool) → Fill
listed_fill states holders seen = record {
  state = λ i. slice_index_or states i RowState.Free;
  holds = λ a i. is_held_by a (slice_index_or holders i None);
  seen = λ a i. slice_index_or (slice_index_or seen a []) i false;
}

-- the new marks are the old ones and the other's
pub record AddsMarks (old other new : List Bool) : Type 0 where
  pub sized : length new ≡ length old
  pub each : (i : ℕ) → slice_index_or new i false ≡ (slice_index_or old i false || slice_index_or other i false)

-- the second actor's marks gain the first's, and nobody else's change
pub record TellsMarks (old new : List (List Bool)) (from to : ℕ) : Type 0 where
  pub count : length new ≡ length old
  pub told : AddsMarks (slice_index_or old to []) (slice_index_or old from []) (slice_index_or new to [])
  pub others : (a : ℕ) → a ≢ to → slice_index_or new a [] ≡ slice_index_or old a []

-- the lesser of a number and what may be there
abbrev pub lesser_of : Option ℕ → ℕ → Option ℕ
lesser_of None x = Some x
lesser_of (Some y) x = Some (min y x)
