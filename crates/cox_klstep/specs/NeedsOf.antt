-- The rows that the row of a member is made from.
use Rattle.std.specs.Prelude.{◌≡◌, ℕ, ◌<◌, List, ◌∷◌, length, ℤ}
use Rattle.cox_base.specs.declared.side.Side.TheVariants.{Left}
use Rattle.cox_base.specs.IntegerMatrix.{IntegerMatrix, integer_matrix}
use Rattle.cox_base.specs.ShortLex.{normal_form}
use Rattle.cox_reflect.specs.LeastDescent.{IsLeastLeftDescent}
use Rattle.cox_hecke.specs.Step.{IsCorrection}
use Rattle.cox_context.specs.Closed.{Elements}
use Rattle.cox_context.specs.Numbers.{word_at}
use Rattle.cox_row.specs.Rising.{number_at, AreRising, AreWithin}

-- the rows that the row of the member i is made from are there: that of the shorter element by its least left descent, and those of the
-- corrections
pub record HasNeeds (e : Elements) (holds : ℕ → Type 0) (i : ℕ) : Type 0 where
  pub shorter : (s j : ℕ) → IsLeastLeftDescent (integer_matrix e.matrix) (word_at e.members i) s → j < length e.members
      → word_at e.members j ≡ normal_form (integer_matrix e.matrix) (s ∷ word_at e.members i) → holds j
  pub corrected : (s u : ℕ) (m : ℤ) → IsLeastLeftDescent (integer_matrix e.matrix) (word_at e.members i) s → u < length e.members
      → IsCorrection Left (integer_matrix e.matrix) s (s ∷ word_at e.members i) (word_at e.members u) m → holds u

-- the numbers of the members that correct the step by s to w, rising
pub record AreNeeds (A : IntegerMatrix) (members : List (List ℕ)) (s : ℕ) (w : List ℕ) (numbers : List ℕ) : Type 0 where
  pub rising : AreRising numbers
  pub within : AreWithin (length members) numbers
  pub each : (k : ℕ) → k < length numbers → (m : ℤ) × IsCorrection Left A s (s ∷ w) (word_at members (number_at numbers k)) m
  pub whole : (u : ℕ) (m : ℤ) → u < length members → IsCorrection Left A s (s ∷ w) (word_at members u) m
      → (k : ℕ) × (k < length numbers) × (number_at numbers k ≡ u)
