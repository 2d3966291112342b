-- How many polynomials are added up for a row.
use Rattle.std.specs.Prelude.{◌≡◌, ℕ, ◌+◌, ◌*◌, ◌<◌, ◌≤◌, List, length}
use Rattle.cox_base.specs.IntegerMatrix.{integer_matrix}
use Rattle.cox_reflect.specs.LeastDescent.{IsLeastLeftDescent}
use Rattle.cox_context.specs.Closed.{Elements}
use Rattle.cox_context.specs.Numbers.{word_at}
use Rattle.cox_row.specs.Rising.{number_at}
use Rattle.cox_row.specs.ExtremalNumbers.{AreExtremal}
use Rattle.cox_row_builder.specs.Counted.{counted}
use Rattle.cox_klstep.specs.NeedsOf.{AreNeeds}

-- for each extremal x ≤ w at most so many polynomials were added up
abbrev pub IsWithinCost : Elements → ℕ → ℕ → ℕ → ℕ → Type 0
IsWithinCost e i cost old new = (extremal : List ℕ) → AreExtremal (integer_matrix e.matrix) e.members (word_at e.members i) extremal
    → new ≤ old + cost * length extremal

-- for the identity none was added up, and else for each extremal x ≤ w at most 2 more than the step by the least left descent has
-- corrections
pub record IsWithinSteps (e : Elements) (i old new : ℕ) : Type 0 where
  pub identity : i ≡ 0 → new ≡ old
  pub few : (s : ℕ) (numbers : List ℕ) → IsLeastLeftDescent (integer_matrix e.matrix) (word_at e.members i) s
      → AreNeeds (integer_matrix e.matrix) e.members s (word_at e.members i) numbers → IsWithinCost e i (2 + length numbers) old new

-- for each extremal x ≤ w with a number before done at most so many polynomials were added up
abbrev pub IsWithinCostTo : Elements → ℕ → ℕ → ℕ → ℕ → ℕ → Type 0
IsWithinCostTo e i cost done old new = (extremal : List ℕ) → AreExtremal (integer_matrix e.matrix) e.members (word_at e.members i) extremal
    → (count : ℕ) × (count ≤ length extremal) × ((k : ℕ) → k < count → number_at extremal k < done) × (new ≤ old + cost * count)

-- for each extremal x ≤ w at least one polynomial was added up
abbrev pub IsCounted : Elements → ℕ → ℕ → ℕ → Type 0
IsCounted e i old new = (extremal : List ℕ) → AreExtremal (integer_matrix e.matrix) e.members (word_at e.members i) extremal
    → counted old (length extremal) ≤ new

-- for each extremal x ≤ w with a number before done at least one polynomial was added up
pub record IsCountedTo (e : Elements) (i done old new : ℕ) : Type 0 where
  pub kept : old ≤ new
  pub each : (extremal : List ℕ) → AreExtremal (integer_matrix e.matrix) e.members (word_at e.members i) extremal
      → (k : ℕ) → k < length extremal → number_at extremal k < done → counted old (k + 1) ≤ new
