-- The neighbours of members, one list behind another.
use Rattle.std.specs.Prelude.{◌≡◌, ℕ, ◌+◌, ◌-◌, ◌<◌, ◌≤◌, List, length, take, drop, ℤ}
use Rattle.cox_base.specs.IntegerMatrix.{integer_matrix}
use Rattle.cox_context.specs.Closed.{Elements}
use Rattle.cox_context.specs.Numbers.{word_at}
use Rattle.cox_row.specs.Rising.{number_at}
use Rattle.cox_row.specs.Mus.{AreMus}

-- the members for which mu with the member j is not 0, among those below it
pub record HasNeighbours (e : Elements) (j : ℕ) (numbers : List ℕ) : Type 0 where
  pub values : List ℤ
  pub mus : AreMus (integer_matrix e.matrix) e.members (word_at e.members j) numbers values

-- what stands between two offsets
abbrev pub list_between : List ℕ → ℕ → ℕ → List ℕ
list_between numbers start end = take (end - start) (drop start numbers)

-- the neighbours of the members before n, each list from an offset up to the next one
pub record AreNeighbours (e : Elements) (n : ℕ) (offsets numbers : List ℕ) : Type 0 where
  pub count : length offsets ≡ n + 1
  pub last : number_at offsets n ≡ length numbers
  pub rise : (k : ℕ) → k < n → number_at offsets k ≤ number_at offsets (k + 1)
  pub room : (k : ℕ) → k < n → number_at offsets (k + 1) ≤ length numbers
  pub each : (k : ℕ) → k < n → HasNeighbours e k (list_between numbers (number_at offsets k) (number_at offsets (k + 1)))
