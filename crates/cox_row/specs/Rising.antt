-- Lists of numbers of members, rising.
use Rattle.std.specs.Prelude.{ℕ, ◌<◌, List, length, slice_index_or}

-- the number at a place
abbrev pub number_at : List ℕ → ℕ → ℕ
number_at numbers k = slice_index_or numbers k 0

-- each number is less than each later one
abbrev pub AreRising : List ℕ → Type 0
AreRising numbers = (j k : ℕ) → j < k → k < length numbers → number_at numbers j < number_at numbers k

-- each number is below n
abbrev pub AreWithin : ℕ → List ℕ → Type 0
AreWithin n numbers = (k : ℕ) → k < length numbers → number_at numbers k < n
