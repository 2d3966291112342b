-- Where a step leads from the extremal members below one.
use Rattle.std.specs.Prelude.{◌≡◌, ℕ, ◌<◌, List, length, Some}
use Rattle.cox_base.specs.declared.side.Side.{Side}
use Rattle.cox_base.specs.IntegerMatrix.{integer_matrix}
use Rattle.cox_base.specs.ShortLex.{normal_form}
use Rattle.cox_base.specs.SideDescents.{times_letter}
use Rattle.cox_context.specs.Closed.{Elements}
use Rattle.cox_context.specs.Numbers.{word_at}
use Rattle.cox_context.specs.Numbering.{IsNumberOf}
use Rattle.cox_row.specs.Rising.{number_at}
use Rattle.cox_row.specs.ExtremalNumbers.{AreExtremal}
use Rattle.cox_klstep.specs.declared.lowering.Lowered.{Lowered}
use Rattle.cox_klstep.specs.declared.step.Step.{Step}

-- a letter on a side leads from each of these members to the one at the same place
pub record AreLowered (e : Elements) (side : Side) (letter : ℕ) (numbers shorter : List ℕ) : Type 0 where
  pub size : length shorter ≡ length numbers
  pub each : (k : ℕ) → k < length numbers → IsNumberOf e.members
      (normal_form (integer_matrix e.matrix) (times_letter side letter (word_at e.members (number_at numbers k))))
      (Some (number_at shorter k))

-- the extremal members below the member i, with that for a step to it
pub record IsLoweredBy (e : Elements) (i : ℕ) (step : Step) (lowered : Lowered) : Type 0 where
  pub members : AreExtremal (integer_matrix e.matrix) e.members (word_at e.members i) lowered.members.items
  pub shorter : AreLowered e step.side step.letter lowered.members.items lowered.shorter.items
