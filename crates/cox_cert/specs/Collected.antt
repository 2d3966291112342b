-- For code: how the lines of a source are taken, one by one.
use Rattle.std.specs.Prelude.{◌≡◌, ◌⊎◌, ◌<◌, ◌≤◌, ℕ, Bool, true, false, List, [], ◌∷◌, ◌++◌, length, Option, Some, IfSome, Result, Ok, Err}
use Rattle.cox_tokens.specs.declared.limits.TheConstants.{LINE_LIMIT}
use Rattle.cox_outside.specs.declared.limits.TheConstants.{INPUT_LIMIT}
use Rattle.cox_outside.specs.declared.line_reader.Stop.{Stop}
use Rattle.cox_outside.specs.declared.line_reader.Stop.TheVariants as stop
use Rattle.cox_tokens.specs.Line.{content_of}
use Rattle.cox_outside.specs.Ahead.{Ahead, MeetsEnd, MeetsFault, MeetsLimit}
use Rattle.cox_outside.specs.Reader.{TakesNext}
use Rattle.cox_cert.specs.declared.status.Cause.TheVariants.{Grammar}
use Rattle.cox_cert.specs.declared.status.CheckStatus.{CheckStatus}
use Rattle.cox_cert.specs.declared.status.CheckStatus.TheVariants as status
use Rattle.cox_cert.specs.declared.draft.Draft.{Draft}
use Rattle.cox_cert.specs.declared.draft.Form.{Form}
use Rattle.cox_cert.specs.declared.collecting.Halt.{Halt}
use Rattle.cox_cert.specs.declared.collecting.Halt.TheVariants.{Foreign, Failed, Limit, NoMemory}
use Rattle.cox_certtext.specs.Certificate.{Certificate, Gives, contents}
use Rattle.cox_cert.specs.Causes.{IsFirstCause}
use Rattle.cox_cert.specs.Checks.{ReadsAll}
use Rattle.cox_cert.specs.Drafts.{IsDraftOf, IsForm, BeginsNone}

-- how the check ends where no certificate was read
abbrev pub status_of : Halt → CheckStatus
status_of Foreign = status.No Grammar
status_of Failed = status.ReadFault
status_of Limit = status.InputLimit
status_of NoMemory = status.NoMemory

-- whether a read failed
abbrev pub has_failed : {A : Type 0} → Result A Halt → Bool
has_failed (Err Failed) = true
has_failed other = false

-- a line was taken, and what was read before it goes on so
pub record TakesFitting (form next : Form) (halt : Option Stop) (old new : Ahead) : Type 0 where
  pub line : List ℕ
  pub takes : TakesNext halt line old new
  pub short : length (content_of line) ≤ LINE_LIMIT
  pub fits : (lines : List (List ℕ)) → IsForm form lines → IsForm next (lines ++ content_of line ∷ [])

-- the input has ended
pub record TakesNone (form next : Form) (halt : Option Stop) (old new : Ahead) : Type 0 where
  pub meets : MeetsEnd old new
  pub halted : halt ≡ Some stop.End
  pub same : next ≡ form

-- a line was taken with which no certificate goes on
pub record TakesForeign (form : Form) (halt : Option Stop) (old new : Ahead) : Type 0 where
  pub line : List ℕ
  pub takes : TakesNext halt line old new
  pub foreign : (lines : List (List ℕ)) → IsForm form lines → BeginsNone (lines ++ content_of line ∷ [])

-- what the taking of the next line did
abbrev pub TakesOrHalts : Result Form Halt → Form → Option Stop → Ahead → Ahead → Type 0
TakesOrHalts (Ok next) form halt old new = TakesFitting form next halt old new ⊎ TakesNone form next halt old new
TakesOrHalts (Err Foreign) form halt old new = TakesForeign form halt old new
TakesOrHalts (Err Failed) form halt old new = MeetsFault old new
TakesOrHalts (Err Limit) form halt old new = MeetsLimit old new
TakesOrHalts (Err NoMemory) form halt old new = (line : List ℕ) × TakesNext halt line old new

-- the text was read to its end, and has the lines of a certificate, whose parts these are
pub record GivesAll (draft : Draft) (text left : Option (List ℕ)) : Type 0 where
  pub certificate : Certificate
  pub parts : IsDraftOf draft certificate
  pub lines : List (List ℕ)
  pub gives : Gives lines certificate
  pub all : ReadsAll (λ contents. contents ≡ lines) text left

-- what was read of the text
abbrev pub Gathers : Result Draft Halt → Option (List ℕ) → Option (List ℕ) → Type 0
Gathers (Ok draft) text left = GivesAll draft text left
Gathers (Err Foreign) text left = IfSome text (λ bytes. IsFirstCause Grammar (contents bytes))
Gathers (Err Limit) text left = IfSome text (λ bytes. INPUT_LIMIT < length bytes)
Gathers (Err Failed) text left = Unit {0}
Gathers (Err NoMemory) text left = Unit {0}
