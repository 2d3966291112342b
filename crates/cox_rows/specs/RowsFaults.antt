-- Why rows are not made.
use Rattle.std.specs.Prelude.{ℕ, ◌<◌, List, length, ℤ}
use Rattle.cox_base.specs.IntegerMatrix.{integer_matrix}
use Rattle.cox_context.specs.Closed.{Elements}
use Rattle.cox_context.specs.Numbers.{word_at}
use Rattle.cox_row_builder.specs.declared.fault.StepFault.{StepFault}
use Rattle.cox_row_builder.specs.Faults.{IsFault}

-- w is the number of a member with the property
pub record IsMemberWith (e : Elements) (P : List ℕ → Type 0) (w : ℕ) : Type 0 where
  pub member : w < length e.members
  pub one : P (word_at e.members w)

-- what a fault says: the row of a member with the property is beyond a limit; out of memory says nothing
abbrev pub IsRowsFault : Elements → ℤ → (List ℕ → Type 0) → StepFault → Type 0
IsRowsFault e limit P fault = IsFault (integer_matrix e.matrix) e.members limit (IsMemberWith e P) fault

-- the row of some member is beyond a limit
abbrev pub IsFaultOfSome : Elements → ℤ → StepFault → Type 0
IsFaultOfSome e limit fault = IsRowsFault e limit (λ w. Unit {0}) fault
