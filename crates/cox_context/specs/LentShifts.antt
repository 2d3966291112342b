-- Left shifts as they are lent.
use Rattle.std.specs.Prelude.{ℕ, List}
use Rattle.cox_base.specs.IntegerMatrix.{IntegerMatrix}
use Rattle.cox_context.specs.Closed.{IsClosed}
use Rattle.cox_context.specs.Shifts.{AreLeftShifts}

-- members that are closed downwards, with the table of their left shifts
pub record HaveLeftShifts (A : IntegerMatrix) (members : List (List ℕ)) (table : List ℕ) : Type 0 where
  pub closed : IsClosed A members
  pub shifts : AreLeftShifts A members table
