-- The extremal members up to one.
use Rattle.std.specs.Prelude.{◌≡◌, ℕ, ◌+◌, ◌<◌, List, length}
use Rattle.cox_base.specs.IntegerMatrix.{integer_matrix}
use Rattle.cox_context.specs.Closed.{Elements}
use Rattle.cox_context.specs.Numbers.{word_at}
use Rattle.cox_row.specs.Extremal.{IsExtremal}
use Rattle.cox_row.specs.Rising.{number_at, AreRising, AreWithin}

-- the members that are extremal for the member i, from the first one up to i, rising by number
pub record AreExtremalUpTo (e : Elements) (i : ℕ) (numbers : List ℕ) : Type 0 where
  pub rising : AreRising numbers
  pub before : AreWithin (i + 1) numbers
  pub each : (k : ℕ) → k < length numbers
      → IsExtremal (integer_matrix e.matrix) (word_at e.members i) (word_at e.members (number_at numbers k))
  pub whole : (x : ℕ) → x < i + 1 → IsExtremal (integer_matrix e.matrix) (word_at e.members i) (word_at e.members x)
      → (k : ℕ) × (k < length numbers) × (number_at numbers k ≡ x)
