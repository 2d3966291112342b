-- How a run ends.
use Rattle.std.specs.Prelude.{Bool, true, false}
use Rattle.cox_shell.specs.declared.status.Status.{Status}
use Rattle.cox_shell.specs.declared.status.Status.TheVariants.{ReadFault, WriteFault}

-- whether a read failed, and whether a write did
abbrev pub is_read_fault : Status → Bool
is_read_fault ReadFault = true
is_read_fault other = false

abbrev pub is_write_fault : Status → Bool
is_write_fault WriteFault = true
is_write_fault other = false
