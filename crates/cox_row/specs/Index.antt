-- Where the numbers of a list stand in it, looked up by number.
use Rattle.std.specs.Prelude.{◌≡◌, ℕ, ◌<◌, List, length}
use Rattle.cox_row.specs.Rising.{number_at, AreWithin}

-- each number of the list has an entry, and that is its place in the list; other entries may be any
pub record IsIndexOf (numbers entries : List ℕ) : Type 0 where
  pub within : AreWithin (length entries) numbers
  pub place : (k : ℕ) → k < length numbers → number_at entries (number_at numbers k) ≡ k
