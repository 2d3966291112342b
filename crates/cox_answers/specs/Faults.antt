-- What faults lead to: a row or a polynomial is refused, or memory ran out.
use Rattle.std.specs.Prelude.{Bool, true, false, Result, Ok, Err}
use Rattle.cox_row_builder.specs.declared.fault.StepFault.{StepFault}
use Rattle.cox_row_builder.specs.declared.fault.StepFault.TheVariants as step
use Rattle.cox_inverse.specs.declared.fault.InverseFault.{InverseFault}
use Rattle.cox_inverse.specs.declared.fault.InverseFault.TheVariants as inverse
use Rattle.cox_command.specs.declared.refusal.Refusal.TheVariants.{LargeRow}
use Rattle.cox_replies.specs.declared.unanswered.Unanswered.{Unanswered}
use Rattle.cox_replies.specs.declared.unanswered.Unanswered.TheVariants.{Refused, NoMemory}

-- what a fault of rows leads to
abbrev pub unanswered_by : StepFault → Unanswered
unanswered_by step.NoMemory = NoMemory
unanswered_by _ = Refused LargeRow

-- a value, unless there was a fault of rows
abbrev pub unless_fault : {X : Type 0} → Result Unit StepFault → X → Result X Unanswered
unless_fault (Ok done) value = Ok value
unless_fault (Err fault) value = Err (unanswered_by fault)

-- memory ran out, and no row is refused
abbrev pub is_no_memory : StepFault → Bool
is_no_memory step.NoMemory = true
is_no_memory _ = false

-- memory ran out while rows were made
abbrev pub ran_out : Result Unit StepFault → Bool
ran_out (Ok done) = false
ran_out (Err fault) = is_no_memory fault

-- what a fault of inverse polynomials leads to
abbrev pub inverse_unanswered : InverseFault → Unanswered
inverse_unanswered inverse.NoMemory = NoMemory
inverse_unanswered _ = Refused LargeRow
