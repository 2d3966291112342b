-- Which check the program makes, by what it collected of its arguments.
use Rattle.std.specs.Prelude.{◌≡◌, ◌≢◌, ℕ, List, [], map, drop, Option, Some, None, Result, Ok, Err, String, string_bytes}
use Rattle.std.specs.Global.{Vec}
use Rattle.std.specs.declared.alloc.AllocError.{AllocError}
use Rattle.cox_outside.specs.Supply.{Supply}
use Rattle.cox_outside.specs.Outlet.{Outlet}
use Rattle.cox_cert.specs.declared.status.CheckStatus.{CheckStatus}
use Rattle.cox_cert.specs.declared.status.CheckStatus.TheVariants.{NoMemory}
use Rattle.cox_cert.specs.Checks.{IsCheck}

-- One whole check with these words behind the program's name ended by this status, and led from this source to what is left of it, and from
-- the old sink to the new one; `seen` and `shown` give what is known of a source and of a sink.
pub record IsCheckWith {S K : Type 0} (words : List (List ℕ)) (status : CheckStatus) (seen : S → Supply) (source left : S)
    (shown : K → Outlet) (old new : K) : Type 0 where
  pub check : IsCheck status words (seen source) (seen left) (shown old) (shown new)
  -- Where there are words, nothing was read.
  pub unread : words ≢ [] → left ≡ source

-- The check is that with the words behind the name that were collected; where one is no text, that with any words; and where memory ran out
-- for them it has ended at once, and nothing was read or written.
abbrev pub IsCheckOfCollected : {S K Z : Type 0} → Result (Option (Vec (String Z))) AllocError → CheckStatus → (S → Supply) → S → S
    → (K → Outlet) → K → K → Type 0
IsCheckOfCollected (Ok (Some found)) status seen source left shown old new =
    IsCheckWith (drop 1 (map string_bytes found.items)) status seen source left shown old new
IsCheckOfCollected (Ok None) status seen source left shown old new =
    (words : List (List ℕ)) → words ≢ [] → IsCheckWith words status seen source left shown old new
IsCheckOfCollected (Err error) status seen source left shown old new = (status ≡ NoMemory) × (left ≡ source) × (new ≡ old)
