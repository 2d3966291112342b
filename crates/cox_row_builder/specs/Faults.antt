-- Why a row is not made.
use Rattle.std.specs.Prelude.{◌≡◌, ℕ, ◌<◌, ◌≤◌, List, length, ℤ, pos, ◌<ℤ◌, unsigned_abs}
use Rattle.cox_base.specs.IntegerMatrix.{IntegerMatrix}
use Rattle.cox_context.specs.Numbers.{word_at}
use Rattle.cox_row.specs.Rising.{number_at}
use Rattle.cox_row.specs.Mus.{value_at}
use Rattle.cox_row_builder.specs.Limits.{IsLargeCoefficient, IsLargeMu}
use Rattle.cox_row.specs.declared.row.TheConstants.{MU_LIMIT}
use Rattle.cox_row_builder.specs.declared.fault.StepFault.{StepFault}
use Rattle.cox_row_builder.specs.declared.fault.StepFault.TheVariants.{Coefficient, Mu, NoMemory}

-- x is the first member for which P(x,w) has a coefficient above the limit, and degree is the least degree of one
pub record IsFirstLarge (A : IntegerMatrix) (members : List (List ℕ)) (w : List ℕ) (limit : ℤ) (x degree : ℕ) (value : ℤ) : Type 0 where
  pub large : IsLargeCoefficient A limit (word_at members x) w degree value
  pub least : (k : ℕ) (c : ℤ) → k < degree → ¬ IsLargeCoefficient A limit (word_at members x) w k c
  pub before : (y k : ℕ) (c : ℤ) → y < x → ¬ IsLargeCoefficient A limit (word_at members y) w k c

-- no coefficient is above the limit, and x is the first member for which mu(x,w) is above MU_LIMIT
pub record IsFirstLargeMu (A : IntegerMatrix) (members : List (List ℕ)) (w : List ℕ) (limit : ℤ) (x : ℕ) (value : ℤ) : Type 0 where
  pub large : IsLargeMu A (pos MU_LIMIT) (word_at members x) w value
  pub before : (y : ℕ) (m : ℤ) → y < x → ¬ IsLargeMu A (pos MU_LIMIT) (word_at members y) w m
  pub small : (y k : ℕ) (c : ℤ) → y < length members → ¬ IsLargeCoefficient A limit (word_at members y) w k c

-- what a fault says: the member that it names has the property, and its row is beyond a limit; out of memory says nothing
abbrev pub IsFault : IntegerMatrix → List (List ℕ) → ℤ → (ℕ → Type 0) → StepFault → Type 0
IsFault A members limit P (Coefficient x w degree value) = P w × IsFirstLarge A members (word_at members w) limit x degree value
IsFault A members limit P (Mu x w value) = P w × IsFirstLargeMu A members (word_at members w) limit x value
IsFault A members limit P NoMemory = Unit {0}

-- the value at the place k is above the limit, and that of the number x; those before it are not
pub record IsAboveAt (numbers : List ℕ) (values : List ℤ) (x : ℕ) (value : ℤ) (k : ℕ) : Type 0 where
  pub within : k < length values
  pub number : x ≡ number_at numbers k
  pub is : value ≡ value_at values k
  pub above : pos MU_LIMIT <ℤ pos (unsigned_abs value)
  pub before : (j : ℕ) → j < k → unsigned_abs (value_at values j) ≤ MU_LIMIT

-- what a fault of the row of the member w says of a list of values of mu with their numbers
abbrev pub IsNarrowFault : ℕ → List ℕ → List ℤ → StepFault → Type 0
IsNarrowFault w numbers values (Coefficient x u degree value) = ⊥
IsNarrowFault w numbers values (Mu x u value) = (u ≡ w) × ((k : ℕ) × IsAboveAt numbers values x value k)
IsNarrowFault w numbers values NoMemory = Unit {0}
