-- Which run the program makes, by what it found of its arguments.
use Rattle.std.specs.Prelude.{◌≡◌, ℕ, List, map, Option, Some, None, Result, Ok, Err, String, string_bytes}
use Rattle.std.specs.Global.{Vec}
use Rattle.std.specs.declared.alloc.AllocError.{AllocError}
use Rattle.cox_outside.specs.Supply.{Supply}
use Rattle.cox_outside.specs.Outlet.{Outlet}
use Rattle.cox_options.specs.Arguments.{IsUsage}
use Rattle.cox_shell.specs.declared.status.Status.{Status}
use Rattle.cox_shell.specs.declared.status.Status.TheVariants.{NoMemory}
use Rattle.cox_shell.specs.Reading.{IsReadBy}
use Rattle.cox_shell.specs.WholeRun.{IsRun}

-- One whole run with these arguments ended by this status, and led from this source to what is left of it, and from the old sink to the new
-- one; `seen` and `shown` give what is known of a source and of a sink.
pub record IsRunWith {S K : Type 0} (arguments : List (List ℕ)) (status : Status) (seen : S → Supply) (source left : S) (shown : K → Outlet)
    (old new : K) : Type 0 where
  pub run : IsRun status arguments (seen source) (seen left) (shown old) (shown new)
  pub reading : IsReadBy status arguments (seen source) (seen left)
  -- Where the arguments give no options, nothing was read.
  pub unread : IsUsage arguments → left ≡ source

-- The run is that with all arguments that were found; where one is no text, that with some arguments that give no options; and where memory
-- ran out for them it has ended at once, and nothing was read or written.
abbrev pub IsRunOfFound : {S K Z : Type 0} → Result (Option (Vec (String Z))) AllocError → Status → (S → Supply) → S → S → (K → Outlet) → K
    → K → Type 0
IsRunOfFound (Ok (Some found)) status seen source left shown old new =
    IsRunWith (map string_bytes found.items) status seen source left shown old new
IsRunOfFound (Ok None) status seen source left shown old new =
    (arguments : List (List ℕ)) × IsUsage arguments × IsRunWith arguments status seen source left shown old new
IsRunOfFound (Err error) status seen source left shown old new = (status ≡ NoMemory) × (left ≡ source) × (new ≡ old)
