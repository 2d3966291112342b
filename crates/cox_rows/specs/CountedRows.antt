-- How many polynomials are added up at least while rows are made.
use Rattle.std.specs.Prelude.{◌≡◌, ◌⊎◌, ℕ, zero, suc, ◌+◌, ◌≤◌, List, length}
use Rattle.cox_base.specs.IntegerMatrix.{integer_matrix}
use Rattle.cox_context.specs.Numbers.{word_at}
use Rattle.cox_row.specs.ExtremalNumbers.{AreExtremal}
use Rattle.cox_row_builder.specs.Counted.{counted}
use Rattle.cox_row_symmetry.specs.ImagesAtHand.{IsMadeByStep}
use Rattle.cox_rows.specs.Holding.{Holding, HasRow}

-- the row of the member i is new, and no row is held that it could have been read off
pub record IsNewByStep (old new : Holding) (i : ℕ) : Type 0 where
  pub before : ¬ HasRow old i
  pub there : HasRow new i
  pub by_step : IsMadeByStep old.elements (HasRow new) i

-- the row of the member i is such, and the share is at most 1 for each extremal x ≤ w
pub record IsShare (old new : Holding) (i share : ℕ) : Type 0 where
  pub row : IsNewByStep old new i
  pub extremal : List ℕ
  pub are : AreExtremal (integer_matrix old.elements.matrix) old.elements.members (word_at old.elements.members i) extremal
  pub few : share ≤ length extremal

-- the shares of the first n members together
abbrev pub total : (ℕ → ℕ) → ℕ → ℕ
total share zero = 0
total share (suc n) = total share n + share n

-- for the rows that are new, and that could be read off none, at least as many polynomials were added up as they have extremal x ≤ w, all
-- of these rows together
abbrev pub AreRowsCounted : Holding → Holding → Type 0
AreRowsCounted old new = (share : ℕ → ℕ) → ((i : ℕ) → (share i ≡ 0) ⊎ IsShare old new i (share i)) → (n : ℕ)
    → counted old.steps (total share n) ≤ new.steps
