-- The extremal members whose polynomials have a coefficient above the limit, as they are found.
use Rattle.std.specs.Prelude.{◌≡◌, ℕ, ◌<◌, List, length, slice_index_or, ℤ, pos}
use Rattle.cox_base.specs.IntegerMatrix.{IntegerMatrix}
use Rattle.cox_base.specs.Bruhat.{IsBelow}
use Rattle.cox_context.specs.Numbers.{word_at}
use Rattle.cox_row.specs.Rising.{number_at, AreRising, AreWithin}
use Rattle.cox_row.specs.Extremal.{IsExtremal}
use Rattle.cox_row_builder.specs.Limits.{IsLargeCoefficient}
use Rattle.cox_row_builder.specs.declared.fault.StepFault.{StepFault}
use Rattle.cox_row_builder.specs.declared.fault.StepFault.TheVariants.{Coefficient}
use Rattle.cox_row_builder.specs.declared.large.LargeCoefficient.{LargeCoefficient}

-- no coefficient of P(x,w) is above the limit in absolute value
abbrev pub IsWithinLimit : IntegerMatrix → ℤ → List ℕ → List ℕ → Type 0
IsWithinLimit A limit x w = (k : ℕ) (c : ℤ) → ¬ IsLargeCoefficient A limit x w k c

-- the coefficient of q^degree in P(x,w) is the value, which is above the limit in absolute value, and none of a lower degree is
pub record IsLeastLarge (A : IntegerMatrix) (limit : ℤ) (x w : List ℕ) (degree : ℕ) (value : ℤ) : Type 0 where
  pub large : IsLargeCoefficient A limit x w degree value
  pub least : (k : ℕ) (c : ℤ) → k < degree → ¬ IsLargeCoefficient A limit x w k c

-- the coefficient at a place
abbrev pub coefficient_at : List LargeCoefficient → ℕ → LargeCoefficient
coefficient_at list k = slice_index_or list k (record { degree = 0; value = pos 0 })

-- the fault of the row of the member w that tells of a coefficient at the member x
abbrev pub fault_by : ℕ → ℕ → LargeCoefficient → StepFault
fault_by x w coefficient = Coefficient x w coefficient.degree coefficient.value

-- the extremal x ≤ w with a number before end for which P(x,w) has a coefficient above the limit, each with the first one
pub record AreLarge (A : IntegerMatrix) (members : List (List ℕ)) (w : List ℕ) (limit : ℤ) (end : ℕ) (numbers : List ℕ)
    (coefficients : List LargeCoefficient) : Type 0 where
  pub size : length coefficients ≡ length numbers
  pub rising : AreRising numbers
  pub before : AreWithin end numbers
  pub least : (k : ℕ) → k < length numbers → IsLeastLarge A limit (word_at members (number_at numbers k)) w
      (coefficient_at coefficients k).degree (coefficient_at coefficients k).value
  pub whole : (x k : ℕ) (c : ℤ) → x < end → IsExtremal A w (word_at members x) → IsBelow A (word_at members x) w
      → IsLargeCoefficient A limit (word_at members x) w k c → (j : ℕ) × (j < length numbers) × (number_at numbers j ≡ x)
