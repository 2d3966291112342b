-- Checks that nothing from outside hindered.
use Rattle.std.specs.Prelude.{ℕ, ◌+◌, ◌≤◌, min}
use Rattle.cox_outside.specs.FaultCount.{last_count}
use Rattle.cox_cert.specs.declared.status.CheckStatus.{CheckStatus}
use Rattle.cox_cert.specs.declared.status.CheckStatus.TheVariants.{Yes, No, Usage, ReadFault, WriteFault, NoMemory, InputLimit}

-- a count of faults rose: it is greater than it was, or stands at its last value
abbrev pub Rose : ℕ → ℕ → Type 0
Rose before now = min (before + 1) last_count ≤ now

-- nothing from outside hindered the check: it ended by a verdict, or memory ran out
abbrev pub IsUnhindered : CheckStatus → Type 0
IsUnhindered Yes = Unit {0}
IsUnhindered (No cause) = Unit {0}
IsUnhindered Usage = ⊥
IsUnhindered ReadFault = ⊥
IsUnhindered WriteFault = ⊥
IsUnhindered NoMemory = Unit {0}
IsUnhindered InputLimit = ⊥
