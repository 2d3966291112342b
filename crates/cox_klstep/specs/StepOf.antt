-- The step by which the row of w is made: a descent s of w, the element v = sw or ws, and what the step from v is corrected by.
use Rattle.std.specs.Prelude.{◌≡◌, ℕ, ◌+◌, ◌*◌, ◌<◌, List, length, slice_index_or, slice_get, IfSome, ℤ, pos}
use Rattle.std.specs.Borrow.{Bor}
use Rattle.cox_base.specs.declared.side.Side.{Side}
use Rattle.cox_base.specs.IntegerMatrix.{IntegerMatrix, integer_matrix}
use Rattle.cox_base.specs.ShortLex.{normal_form}
use Rattle.cox_base.specs.Length.{word_length}
use Rattle.cox_base.specs.SideDescents.{times_letter, IsDescent}
use Rattle.cox_hecke.specs.Step.{IsCorrection}
use Rattle.cox_context.specs.Closed.{Elements}
use Rattle.cox_context.specs.Numbers.{word_at}
use Rattle.cox_row.specs.declared.row.Row.{Row}
use Rattle.cox_row.specs.RowOf.{IsRowAt}
use Rattle.cox_klstep.specs.declared.step.Correction.{Correction}
use Rattle.cox_klstep.specs.declared.step.Step.{Step}

-- the correction at a place
abbrev pub correction_at : List Correction → ℕ → Correction
correction_at list k = slice_index_or list k (record { number = 0; factor = pos 0; shift = 0 })

-- all corrections of the step by s to w among the members, rising by number, each with mu(u,v) and half the difference of lengths
pub record AreNumbered (side : Side) (A : IntegerMatrix) (members : List (List ℕ)) (s : ℕ) (w : List ℕ) (list : List Correction)
    : Type 0 where
  pub rising : (j k : ℕ) → j < k → k < length list → (correction_at list j).number < (correction_at list k).number
  pub within : (k : ℕ) → k < length list → (correction_at list k).number < length members
  pub each : (k : ℕ) → k < length list
      → IsCorrection side A s (times_letter side s w) (word_at members (correction_at list k).number) (correction_at list k).factor
  pub shift : (k : ℕ) → k < length list
      → word_length A w ≡ word_length A (word_at members (correction_at list k).number) + 2 * (correction_at list k).shift
  pub whole : (u : ℕ) (m : ℤ) → u < length members → IsCorrection side A s (times_letter side s w) (word_at members u) m
      → (k : ℕ) × (k < length list) × ((correction_at list k).number ≡ u)

-- the step by which the row of the member with its number is made
pub record IsRowStep (e : Elements) (step : Step) : Type 0 where
  pub within : step.member < length e.members
  pub descent : IsDescent step.side (integer_matrix e.matrix) (word_at e.members step.member) step.letter
  pub lower_within : step.lower < length e.members
  pub lower_is : word_at e.members step.lower
      ≡ normal_form (integer_matrix e.matrix) (times_letter step.side step.letter (word_at e.members step.member))
  pub numbered : AreNumbered step.side (integer_matrix e.matrix) e.members step.letter (word_at e.members step.member)
      step.corrections.items

-- the rows of the corrections, in their order
pub record AreNeeded (e : Elements) (list : List Correction) (rows : List (Bor Row)) : Type 0 where
  pub size : length rows ≡ length list
  pub each : (k : ℕ) → k < length list → IfSome (slice_get rows k) (λ r. IsRowAt e (correction_at list k).number r.now)
