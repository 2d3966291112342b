-- What ending an open list does at the end of reading.
use Rattle.std.specs.Prelude.{◌≡◌, ◌<◌, Bool, true, false, List, ℕ, length, IfSome, IsSome}
use Rattle.cox_outside.specs.Outlet.{Outlet, Writes, IsPrefix, SinkCause}
use Rattle.cox_shell.specs.declared.closing.Closed.{Closed}
use Rattle.cox_shell.specs.declared.closing.Closed.TheVariants.{Answered, Refused, WriteFault, NoMemory}
use Rattle.cox_shell.specs.declared.session.Said.{Said}
use Rattle.cox_shell.specs.declared.session.Said.TheVariants as said
use Rattle.cox_shell.specs.declared.status.Status.{Status}
use Rattle.cox_shell.specs.declared.status.Status.TheVariants as status
use Rattle.cox_shell.specs.Reply.{State, Reply, texts}
use Rattle.cox_shell.specs.Answer.{IsClosing, has_refusal}

-- the list was ended, if one was open, and its reply written, which is a refusal or not
pub record HasClosed (refused : Bool) (state : State) (old new : Outlet) : Type 0 where
  pub closing : List Reply
  pub closes : IsClosing state closing
  pub writes : Writes (texts closing) old new
  pub refuses : has_refusal closing ≡ refused

-- a list was open, and a prefix of its reply was written
pub record IsClosingCut (state : State) (old new : Outlet) : Type 0 where
  pub list_open : IsSome state.list
  pub closing : List Reply
  pub closes : IsClosing state closing
  pub prefix : List ℕ
  pub is_prefix : IsPrefix prefix (texts closing)
  pub writes : Writes prefix old new

-- the list was ended, and what that led to
abbrev pub Closes : Closed → State → Outlet → Outlet → Type 0
Closes Answered state old new = HasClosed false state old new
Closes Refused state old new = HasClosed true state old new
Closes WriteFault state old new = (cut : IsClosingCut state old new) × IfSome old.room (λ left. left < length (texts cut.closing))
Closes NoMemory state old new = IsClosingCut state old new

-- what was said of it
abbrev pub closed_by : Said → Closed
closed_by said.Answered = Answered
closed_by (said.Refused number) = Refused
closed_by said.Quit = Answered

-- whether a write failed
abbrev pub closed_write_fault : Closed → Bool
closed_write_fault WriteFault = true
closed_write_fault other = false

-- the status of a run that ended by this one, where a list was ended then
abbrev pub closed_status : Closed → Status → Status
closed_status Answered ended = ended
closed_status Refused status.Done = status.Refused
closed_status Refused ended = ended
closed_status WriteFault ended = status.WriteFault
closed_status NoMemory ended = status.NoMemory

-- a run over the lines ended by this status; the list was ended then, and the status that this led to
abbrev pub EndsList : Status → Status → State → Outlet → Outlet → Type 0
EndsList ended result state old new = (closed : Closed) × Closes closed state old new × SinkCause old new (closed_write_fault closed)
    × (result ≡ closed_status closed ended)

-- the same at each status: where a write failed or memory ran out nothing more was done
abbrev pub EndsBy : Status → Status → State → Outlet → Outlet → Type 0
EndsBy status.WriteFault result state old new = (result ≡ status.WriteFault) × (new ≡ old)
EndsBy status.NoMemory result state old new = (result ≡ status.NoMemory) × (new ≡ old)
EndsBy status.Usage result state old new = (result ≡ status.Usage) × (new ≡ old)
EndsBy status.Done result state old new = EndsList status.Done result state old new
EndsBy status.Refused result state old new = EndsList status.Refused result state old new
EndsBy status.ReadFault result state old new = EndsList status.ReadFault result state old new
EndsBy status.InputLimit result state old new = EndsList status.InputLimit result state old new
