-- Which step is chosen: of those whose rows are there one with the fewest corrections.
use Rattle.std.specs.Prelude.{◌≡◌, ℕ, ◌<◌, ◌≤◌, List, length, ℤ}
use Rattle.cox_base.specs.declared.side.Side.{Side}
use Rattle.cox_base.specs.IntegerMatrix.{integer_matrix}
use Rattle.cox_base.specs.ShortLex.{normal_form}
use Rattle.cox_base.specs.SideDescents.{times_letter, IsDescent}
use Rattle.cox_hecke.specs.Step.{IsCorrection}
use Rattle.cox_context.specs.Closed.{Elements}
use Rattle.cox_context.specs.Numbers.{word_at}
use Rattle.cox_klstep.specs.declared.step.Correction.{Correction}
use Rattle.cox_row_symmetry.specs.declared.descents.Descent.{Descent}
use Rattle.cox_row_symmetry.specs.DescentOf.{IsLowering}
use Rattle.cox_klstep.specs.StepOf.{AreNumbered}

-- the rows of the corrections of the step by s to the member i are there
abbrev pub HasCorrections : Elements → (ℕ → Type 0) → ℕ → Side → ℕ → Type 0
HasCorrections e holds i side s = (u : ℕ) (m : ℤ) → u < length e.members
    → IsCorrection side (integer_matrix e.matrix) s (times_letter side s (word_at e.members i)) (word_at e.members u) m → holds u

-- s is a descent of the member i, and the rows that the step by it needs are there: that of the shorter element, and those of the
-- corrections
pub record IsAtHand (e : Elements) (holds : ℕ → Type 0) (i : ℕ) (side : Side) (s : ℕ) : Type 0 where
  pub descent : IsDescent side (integer_matrix e.matrix) (word_at e.members i) s
  pub shorter : (j : ℕ) → j < length e.members
      → word_at e.members j ≡ normal_form (integer_matrix e.matrix) (times_letter side s (word_at e.members i)) → holds j
  pub corrected : HasCorrections e holds i side s

-- the step by s to the member i has at least n corrections, if its rows are there
abbrev pub HasNoFewer : Elements → (ℕ → Type 0) → ℕ → ℕ → Side → ℕ → Type 0
HasNoFewer e holds i n side s = IsAtHand e holds i side s → (list : List Correction)
    → AreNumbered side (integer_matrix e.matrix) e.members s (word_at e.members i) list → n ≤ length list

-- a step to the member i whose rows are there, and how many corrections it has
pub record IsChoice (e : Elements) (holds : ℕ → Type 0) (i : ℕ) (side : Side) (d : Descent) (count : ℕ) : Type 0 where
  pub lowering : IsLowering e side d
  pub member : d.member ≡ i
  pub lower : holds d.lower
  pub corrected : HasCorrections e holds i side d.letter
  pub many : (list : List Correction) → AreNumbered side (integer_matrix e.matrix) e.members d.letter (word_at e.members i) list
      → count ≡ length list
