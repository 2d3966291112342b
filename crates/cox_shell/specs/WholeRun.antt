-- The contract of a whole run: what each status says of what was written, and of faults.
use Rattle.std.specs.Prelude.{◌≡◌, ℕ, ◌⊎◌, Bool, true, false, List, [], ◌∷◌, length}
use Rattle.std.specs.Io.KnownBytes.{prepend_known}
use Rattle.cox_outside.specs.declared.limits.TheConstants.{INPUT_LIMIT}
use Rattle.cox_outside.specs.Supply.{Supply, SourceCause}
use Rattle.cox_outside.specs.Outlet.{Outlet, Writes, SinkCause}
use Rattle.cox_options.specs.Arguments.{is_refused}
use Rattle.cox_shell.specs.declared.status.Status.{Status}
use Rattle.cox_shell.specs.declared.status.Status.TheVariants.{Done, Refused, Usage, ReadFault, WriteFault, NoMemory, InputLimit}
use Rattle.cox_shell.specs.Reply.{Reply}
use Rattle.cox_shell.specs.Status.{is_write_fault}
use Rattle.cox_shell.specs.Top.{usage_line, given_limits, AnswersWhole, AnswersGiven, AreDueAtEnd, WritesDue}

-- a run with these arguments ended by this status, between what was known of the source and the sink before it and what is known after it
pub record IsRun (status : Status) (arguments : List (List ℕ)) (source left : Supply) (old new : Outlet) : Type 0 where
  -- At these the script's answer is written whole, within the limits that the arguments give, and the script was read to its end, or to the
  -- line that ends the run.
  pub done : status ≡ Done → AnswersWhole false (given_limits arguments) source.left left.left old new
  pub refused : status ≡ Refused → AnswersWhole true (given_limits arguments) source.left left.left old new
  -- At a read fault it is the answer to the lines that were read whole. A list that is open then ends.
  pub given : status ≡ ReadFault → AnswersGiven (given_limits arguments) source.left left.left old new
  -- At the limit it is the answer to the lines that end within as many bytes, in the same way, and one byte more was read.
  pub limit : status ≡ InputLimit → (byte : ℕ) × (answers : AnswersGiven (given_limits arguments) source.left
      (prepend_known (byte ∷ []) left.left) old new) × (length answers.given ≡ INPUT_LIMIT)
  -- Where the arguments give no options it is the usage line, and only there.
  pub usage : status ≡ Usage → (is_refused arguments ≡ true) × Writes usage_line old new
  pub usage_always : is_refused arguments ≡ true → (status ≡ Usage) ⊎ (status ≡ WriteFault) ⊎ (status ≡ NoMemory)
  -- `lost` says whether a read failed, at whatever status the run ended. Faults come from outside, and each is told. After a failed read
  -- inside a list a write of the list's answer may fail too, or memory run out for it, and that is told then.
  pub lost : Bool
  pub read_fault : SourceCause source left lost
  pub fault_lost : status ≡ ReadFault → lost ≡ true
  pub lost_told : lost ≡ true → (status ≡ ReadFault) ⊎ (((status ≡ WriteFault) ⊎ (status ≡ NoMemory))
      × (replies : List Reply) × AreDueAtEnd true (given_limits arguments) source.left left.left replies)
  pub write_fault : SinkCause old new (is_write_fault status)
  -- Whatever came, a prefix of what is due after the lines that were read is written; and a write fails only where that is more than there
  -- was room for, if the sink tells its room.
  pub prefix : WritesDue lost (is_write_fault status) arguments source.left left.left old new
