-- Runs that nothing from outside hindered.
use Rattle.cox_shell.specs.declared.status.Status.{Status}
use Rattle.cox_shell.specs.declared.status.Status.TheVariants.{Done, Refused, Usage, ReadFault, WriteFault, NoMemory, InputLimit}

-- nothing from outside hindered the run: the script was answered, or memory ran out
abbrev pub IsUnhindered : Status → Type 0
IsUnhindered Done = Unit {0}
IsUnhindered Refused = Unit {0}
IsUnhindered Usage = ⊥
IsUnhindered ReadFault = ⊥
IsUnhindered WriteFault = ⊥
IsUnhindered NoMemory = Unit {0}
IsUnhindered InputLimit = ⊥
