-- Where a run stands, and what serving one line does.
use Rattle.std.specs.Prelude.{◌≡◌, ◌<◌, Bool, true, false, List, [], ℕ, length, Option, is_some, IfSome, Result, Ok, Err}
use Rattle.cox_outside.specs.declared.line_reader.Stop.{Stop}
use Rattle.cox_outside.specs.declared.line_reader.Next.TheVariants as next
use Rattle.cox_outside.specs.Supply.{Supply}
use Rattle.cox_outside.specs.Outlet.{Outlet, Writes, IsPrefix}
use Rattle.cox_outside.specs.Ahead.{Ahead, ahead}
use Rattle.cox_outside.specs.Reader.{Reader, TakesNext, ReadsNext}
use Rattle.std.specs.declared.alloc.AllocError.{AllocError}
use Rattle.cox_shell.specs.declared.session.Said.{Said}
use Rattle.cox_shell.specs.declared.session.Said.TheVariants.{Answered, Refused, Quit}
use Rattle.cox_shell.specs.declared.status.Stopped.{Stopped}
use Rattle.cox_shell.specs.declared.status.Stopped.TheVariants.{End, ReadFault, WriteFault, NoMemory, InputLimit}
use Rattle.cox_shell.specs.Reply.{State, Reply}
use Rattle.cox_shell.specs.LineReply.{IsReply}
use Rattle.cox_shell.specs.Saying.{Says}

-- the session's state, whether the reader stopped, what lies ahead of it, and what the sink tells
pub record Stand : Type 0 where
  pub state : State
  pub stop : Option Stop
  pub ahead : Ahead
  pub out : Outlet

-- where a run stands, by the values that it is made of
abbrev pub stand : State → Reader → Supply → Outlet → Stand
stand state reader supply outlet = record { state = state; stop = reader.stop; ahead = ahead reader.feed supply.left; out = outlet }

-- what was said to a line, or that there was no memory for its reply
abbrev pub outcome_of : Result Said AllocError → Result Said Stopped
outcome_of (Ok said) = Ok said
outcome_of (Err error) = Err NoMemory

-- whether a read failed, and whether a write did
abbrev pub stopped_read_fault : Result Said Stopped → Bool
stopped_read_fault (Err ReadFault) = true
stopped_read_fault other = false

abbrev pub stopped_write_fault : Result Said Stopped → Bool
stopped_write_fault (Err WriteFault) = true
stopped_write_fault other = false

-- a line was taken, which has this reply
pub record TakesReplied (reply : Reply) (state : State) (halt : Option Stop) (old new : Ahead) : Type 0 where
  pub line : List ℕ
  pub takes : TakesNext halt line old new
  pub is_reply : IsReply state line reply

-- what answering the next line did: its reply stands in the buffer, or memory ran out for it, or no line was there
abbrev pub AnswersNextLine : Result Said Stopped → State → State → Option Stop → Ahead → Ahead → List ℕ → Type 0
AnswersNextLine (Ok said) before after halt old new buffer = (reply : Reply) × TakesReplied reply before halt old new
    × Says said reply after [] buffer
AnswersNextLine (Err NoMemory) before after halt old new buffer = (reply : Reply) × TakesReplied reply before halt old new
AnswersNextLine (Err End) before after halt old new buffer = ReadsNext next.End halt old new × (buffer ≡ []) × (after ≡ before)
AnswersNextLine (Err ReadFault) before after halt old new buffer = ReadsNext next.Failed halt old new × (buffer ≡ []) × (after ≡ before)
AnswersNextLine (Err InputLimit) before after halt old new buffer = ReadsNext next.Limit halt old new × (buffer ≡ []) × (after ≡ before)
AnswersNextLine (Err WriteFault) before after halt old new buffer = ⊥

-- a line was taken and its reply written, which is a refusal or not, and ends the run or not
pub record IsServed (refused quits : Bool) (old new : Stand) : Type 0 where
  pub reply : Reply
  pub taken : TakesReplied reply old.state new.stop old.ahead new.ahead
  pub writes : Writes reply.text old.out new.out
  pub state_after : new.state ≡ reply.after
  pub refuses : is_some reply.refused ≡ refused
  pub quitting : reply.quits ≡ quits

-- a line was taken and a prefix of its reply written
pub record IsCutOff (old new : Stand) : Type 0 where
  pub reply : Reply
  pub taken : TakesReplied reply old.state new.stop old.ahead new.ahead
  pub prefix : List ℕ
  pub is_prefix : IsPrefix prefix reply.text
  pub writes : Writes prefix old.out new.out

-- what serving the next line did
abbrev pub Serves : Result Said Stopped → Stand → Stand → Type 0
Serves (Ok Answered) old new = IsServed false false old new
Serves (Ok (Refused number)) old new = IsServed true false old new
Serves (Ok Quit) old new = IsServed false true old new
Serves (Err End) old new = ReadsNext next.End new.stop old.ahead new.ahead × (new.out ≡ old.out) × (new.state ≡ old.state)
Serves (Err InputLimit) old new =
    ReadsNext next.Limit new.stop old.ahead new.ahead × (new.out ≡ old.out) × (new.state ≡ old.state)
Serves (Err ReadFault) old new =
    ReadsNext next.Failed new.stop old.ahead new.ahead × (new.out ≡ old.out) × (new.state ≡ old.state)
Serves (Err WriteFault) old new = (cut : IsCutOff old new) × IfSome old.out.room (λ left. left < length cut.reply.text)
Serves (Err NoMemory) old new = IsCutOff old new
