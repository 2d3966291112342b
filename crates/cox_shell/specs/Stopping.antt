-- How a run ends that stopped.
use Rattle.std.specs.Prelude.{Bool, if◌then◌else◌}
use Rattle.cox_shell.specs.declared.status.Status.{Status}
use Rattle.cox_shell.specs.declared.status.Status.TheVariants as status
use Rattle.cox_shell.specs.declared.status.Stopped.{Stopped}
use Rattle.cox_shell.specs.declared.status.Stopped.TheVariants.{End, ReadFault, WriteFault, NoMemory, InputLimit}

-- by why it stopped, and whether a line was refused before
abbrev pub status_of : Stopped → Bool → Status
status_of End refused = if refused then status.Refused else status.Done
status_of ReadFault refused = status.ReadFault
status_of WriteFault refused = status.WriteFault
status_of NoMemory refused = status.NoMemory
status_of InputLimit refused = status.InputLimit
