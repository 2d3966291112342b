-- What a check says of a text, and what it writes.
use Rattle.std.specs.Prelude.{◌≡◌, ◌≢◌, ◌⊎◌, ℕ, ◌+◌, ◌<◌, ◌≤◌, Bool, true, false, List, [], ◌∷◌, ◌++◌, length, map, drop, codes, decimal}
use Rattle.std.specs.Prelude.{Option, IfSome}
use Rattle.std.specs.Borrow.{Bor}
use Rattle.std.specs.Io.KnownBytes.{prepend_known, IsAtEnd}
use Rattle.cox_outside.specs.declared.limits.TheConstants.{INPUT_LIMIT}
use Rattle.cox_tokens.specs.Line.{line_feed}
use Rattle.cox_outside.specs.Supply.{Supply, SourceCause}
use Rattle.cox_outside.specs.Outlet.{Outlet, Writes, SinkCause, IsPrefix}
use Rattle.cox_cert.specs.declared.status.Cause.{Cause}
use Rattle.cox_cert.specs.declared.status.Cause.TheVariants.{Grammar, Top, Interval, Size, Row}
use Rattle.cox_cert.specs.declared.status.CheckStatus.{CheckStatus}
use Rattle.cox_cert.specs.declared.status.CheckStatus.TheVariants.{Yes, No, Usage, ReadFault, WriteFault, NoMemory, InputLimit}
use Rattle.cox_certtext.specs.Certificate.{contents}
use Rattle.cox_cert.specs.Causes.{IsFirstCause, IsProof}

-- the number of a cause, as it is written
abbrev pub cause_number : Cause → ℕ
cause_number Grammar = 1
cause_number Top = 2
cause_number Interval = 3
cause_number Size = 4
cause_number Row = 5

-- what is written where no write fails
abbrev pub status_text : CheckStatus → List ℕ
status_text Yes = codes "yes" ++ line_feed ∷ []
status_text (No cause) = codes "no " ++ decimal (cause_number cause) ++ line_feed ∷ []
status_text Usage = codes "usage: coxcheck" ++ line_feed ∷ []
status_text _ = []

-- the number that the program ends with
abbrev pub check_code_of : CheckStatus → ℕ
check_code_of Yes = 0
check_code_of (No cause) = 1
check_code_of Usage = 2
check_code_of ReadFault = 3
check_code_of WriteFault = 4
check_code_of NoMemory = 5
check_code_of InputLimit = 6

abbrev pub is_check_read_fault : CheckStatus → Bool
is_check_read_fault ReadFault = true
is_check_read_fault other = false

abbrev pub is_check_write_fault : CheckStatus → Bool
is_check_write_fault WriteFault = true
is_check_write_fault other = false

-- the text was read to its end, is within the limit, and its lines have the property
abbrev pub ReadsAll : (List (List ℕ) → Type 0) → Option (List ℕ) → Option (List ℕ) → Type 0
ReadsAll P text left = IfSome text (λ bytes. (length bytes ≤ INPUT_LIMIT) × P (contents bytes)) × IsAtEnd left

-- what a status says of the text; where it is no certificate's the rest may be unread
abbrev pub Says : CheckStatus → Option (List ℕ) → Option (List ℕ) → Type 0
Says Yes text left = ReadsAll IsProof text left
Says (No Grammar) text left = IfSome text (λ bytes. IsFirstCause Grammar (contents bytes))
Says (No cause) text left = ReadsAll (IsFirstCause cause) text left
Says InputLimit text left = IfSome text (λ bytes. INPUT_LIMIT < length bytes)
Says _ text left = Unit {0}

-- what the arguments of the program are behind its name, as texts
abbrev pub words_behind : List (Bor (List ℕ)) → List (List ℕ)
words_behind arguments = drop 1 (map (λ argument. argument.now) arguments)

-- With these words behind the program's name this status is due: it says what holds of the text, and it is Usage where there are words, and
-- only there.
pub record IsCheckDue (status : CheckStatus) (words : List (List ℕ)) (text left : Option (List ℕ)) : Type 0 where
  pub says : Says status text left
  pub usage : status ≡ Usage → words ≢ []
  pub usage_always : words ≢ [] → status ≡ Usage

-- a prefix of what is due was written, and more was due than there was room for, if the sink tells its room
pub record IsCheckCutShort (words : List (List ℕ)) (text left : Option (List ℕ)) (old new : Outlet) : Type 0 where
  pub due : CheckStatus
  pub is_due : IsCheckDue due words text left
  pub some : status_text due ≢ []
  pub prefix : List ℕ
  pub is_prefix : IsPrefix prefix (status_text due)
  pub writes : Writes prefix old new
  pub room : IfSome old.room (λ count. count < length (status_text due))

-- no more is read than the limit and one byte
abbrev pub ReadsWithin : Option (List ℕ) → Option (List ℕ) → Type 0
ReadsWithin text left = (given : List ℕ) × (text ≡ prepend_known given left) × (length given ≤ INPUT_LIMIT + 1)

-- a check with these words behind the program's name ended by this status
pub record IsCheck (status : CheckStatus) (words : List (List ℕ)) (source left : Supply) (old new : Outlet) : Type 0 where
  pub says : Says status source.left left.left
  -- Words are wrong, and only they are.
  pub usage : status ≡ Usage → words ≢ []
  pub usage_always : words ≢ [] → (status ≡ Usage) ⊎ (status ≡ WriteFault)
  -- Faults come from outside, and each is told.
  pub read_fault : SourceCause source left (is_check_read_fault status)
  pub write_fault : SinkCause old new (is_check_write_fault status)
  -- The text of the status is written, or, where a write failed, a prefix of the text of the one that was due.
  pub writes : status ≢ WriteFault → Writes (status_text status) old new
  pub cut : status ≡ WriteFault → IsCheckCutShort words source.left left.left old new
  pub within : ReadsWithin source.left left.left
