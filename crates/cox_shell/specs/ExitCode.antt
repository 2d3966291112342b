-- Exit codes.
use Rattle.std.specs.Prelude.{ℕ}
use Rattle.cox_shell.specs.declared.status.Status.{Status}
use Rattle.cox_shell.specs.declared.status.Status.TheVariants.{Done, Refused, Usage, ReadFault, WriteFault, NoMemory, InputLimit}

-- the number that the program ends with
abbrev pub code_of : Status → ℕ
code_of Done = 0
code_of Refused = 1
code_of Usage = 2
code_of ReadFault = 3
code_of WriteFault = 4
code_of NoMemory = 5
code_of InputLimit = 6
