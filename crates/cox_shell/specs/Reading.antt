-- How far a whole run has read.
use Rattle.std.specs.Prelude.{◌≡◌, ℕ, ◌+◌, ◌≤◌, ◌⊎◌, Bool, true, false, List, length}
use Rattle.std.specs.Io.KnownBytes.{prepend_known}
use Rattle.cox_outside.specs.declared.limits.TheConstants.{INPUT_LIMIT}
use Rattle.cox_outside.specs.Supply.{Supply, SourceCause}
use Rattle.cox_options.specs.Arguments.{is_refused}
use Rattle.cox_shell.specs.declared.status.Status.{Status}
use Rattle.cox_shell.specs.declared.status.Status.TheVariants.{WriteFault, NoMemory}
use Rattle.cox_shell.specs.Reply.{Reply}
use Rattle.cox_shell.specs.Top.{given_limits, StopsReading, AreDue, AreDueAtEnd}

-- how far a run with these arguments that ended by this status has read: of `source`, `left` is left
pub record IsReadBy (status : Status) (arguments : List (List ℕ)) (source left : Supply) : Type 0 where
  -- Where a write failed or memory ran out, less than a chunk was read beyond lines whose replies are due, of which one that ends the run
  -- is the last; or reading had ended inside a list, by a failed read, which is told, or otherwise.
  pub stops : (status ≡ WriteFault) ⊎ (status ≡ NoMemory) → is_refused arguments ≡ false
      → ((replies : List Reply) × AreDue (given_limits arguments) source.left left.left replies
      × StopsReading replies source.left left.left)
      ⊎ ((lost : Bool) × (lost ≡ true → SourceCause source left true) × (replies : List Reply)
      × AreDueAtEnd lost (given_limits arguments) source.left left.left replies)
  -- No more is read than the limit and one byte.
  pub within : (given : List ℕ) × (source.left ≡ prepend_known given left.left) × (length given ≤ INPUT_LIMIT + 1)
