-- The numbers of the extremal elements of a row.
use Rattle.std.specs.Prelude.{◌≡◌, ℕ, ◌<◌, List, length}
use Rattle.cox_base.specs.IntegerMatrix.{IntegerMatrix}
use Rattle.cox_base.specs.Bruhat.{IsBelow}
use Rattle.cox_context.specs.Numbers.{word_at}
use Rattle.cox_row.specs.Rising.{number_at, AreRising, AreWithin}
use Rattle.cox_row.specs.Extremal.{IsExtremal}

-- the numbers of the extremal x ≤ w among the members, rising
pub record AreExtremal (A : IntegerMatrix) (members : List (List ℕ)) (w : List ℕ) (numbers : List ℕ) : Type 0 where
  pub rising : AreRising numbers
  pub within : AreWithin (length members) numbers
  pub extremal : (k : ℕ) → k < length numbers → IsExtremal A w (word_at members (number_at numbers k))
  pub below : (k : ℕ) → k < length numbers → IsBelow A (word_at members (number_at numbers k)) w
  pub whole : (x : ℕ) → x < length members → IsExtremal A w (word_at members x) → IsBelow A (word_at members x) w
      → (k : ℕ) × (k < length numbers) × (number_at numbers k ≡ x)
