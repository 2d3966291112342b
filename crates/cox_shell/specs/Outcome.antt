-- What a run over the lines does, between where it begins and where it ends.
use Rattle.std.specs.Prelude.{◌≡◌, ℕ, ◌+◌, ◌<◌, ◌≤◌, ◌⊎◌, Bool, true, false, List, [], ◌∷◌, ◌++◌, length, take, IfSome, MatchBool, None}
use Rattle.std.specs.Io.KnownBytes.{prepend_known, IsAtEnd}
use Rattle.cox_outside.specs.declared.limits.TheConstants.{CHUNK_SIZE}
use Rattle.cox_tokens.specs.Line.{ended_lines, lines_within}
use Rattle.cox_outside.specs.Ahead.{Ahead, lines_ahead}
use Rattle.cox_outside.specs.Outlet.{Writes, IsPrefix}
use Rattle.cox_shell.specs.declared.status.Status.{Status}
use Rattle.cox_shell.specs.declared.status.Status.TheVariants.{Done, Refused, Usage, ReadFault, WriteFault, NoMemory, InputLimit}
use Rattle.cox_shell.specs.Reply.{Reply, texts}
use Rattle.cox_shell.specs.Answer.{AreReplies, state_behind, has_refusal, has_quit, bytes_of}
use Rattle.cox_shell.specs.Run.{Stand}

-- bytes were taken, and with those that were read and not handed out these are the first of their lines
pub record HasRead (lines : List (List ℕ)) (old new : Ahead) : Type 0 where
  pub taken : List ℕ
  pub gave : old.bytes ≡ prepend_known taken new.bytes
  pub within : length (taken ++ new.pending) ≤ old.budget + 1
  pub are_read : IsPrefix lines (ended_lines (take old.budget (taken ++ new.pending)))
      ⊎ (IsAtEnd new.bytes × IsPrefix lines (lines_within old.budget (taken ++ new.pending)))

-- a prefix of the replies to the first lines that were read was written
pub record WritesPrefix (old new : Stand) : Type 0 where
  pub lines : List (List ℕ)
  pub has_read : HasRead lines old.ahead new.ahead
  pub replies : List Reply
  pub are_replies : AreReplies old.state lines replies
  pub prefix : List ℕ
  pub is_prefix : IsPrefix prefix (texts replies)
  pub writes : Writes prefix old.out new.out

-- the replies to all lines that lie ahead were written
pub record WritesAll (old new : Stand) : Type 0 where
  pub replies : List Reply
  pub are_replies : IfSome (lines_ahead old.ahead) (λ lines. AreReplies old.state lines replies)
  pub behind : new.state ≡ state_behind old.state replies
  pub writes : Writes (texts replies) old.out new.out

-- no more bytes were taken than the lines with these replies have, and fewer than a chunk were read beyond them
pub record StopsThere (replies : List Reply) (old new : Ahead) : Type 0 where
  pub taken : List ℕ
  pub gave : old.bytes ≡ prepend_known taken new.bytes
  pub few : length new.pending < CHUNK_SIZE
  pub size : IfSome (lines_ahead old) (λ lines. length taken ≤ length (bytes_of (take (length replies) lines)))

-- a prefix of the replies to the first lines that were read was written, and fewer bytes than a chunk were read beyond these lines
pub record IsCutShort (old new : Stand) : Type 0 where
  pub part : WritesPrefix old new
  pub few : StopsThere part.replies old.ahead new.ahead

-- there was a reply that ends the run, or the input was read to its end, and was within the budget
abbrev pub EndsAll : List Reply → Ahead → Ahead → Type 0
EndsAll replies old new = MatchBool (has_quit replies) (StopsThere replies old new)
    (IfSome old.bytes (λ bytes. length bytes ≤ old.budget) × IsAtEnd new.bytes)

-- Reading has ended, by a failed read or otherwise, and the replies to all lines that were read were written: those that LF ends, after a
-- failed read or beyond the budget; or all, where no byte is left.
pub record EndsReading (failed : Bool) (old new : Stand) : Type 0 where
  pub given : List ℕ
  pub gave : old.ahead.bytes ≡ prepend_known given new.ahead.bytes
  pub none_pending : new.ahead.pending ≡ []
  pub lines : List (List ℕ)
  pub are_all : (((failed ≡ true) ⊎ (old.ahead.budget < length given)) × (lines ≡ ended_lines (take old.ahead.budget given)))
      ⊎ (IsAtEnd new.ahead.bytes × (lines ≡ lines_within old.ahead.budget given))
  pub replies : List Reply
  pub are_replies : AreReplies old.state lines replies
  pub behind : new.state ≡ state_behind old.state replies
  pub writes : Writes (texts replies) old.out new.out

-- the lines were answered to their end, with a refusal or without; where a line ended the run no list is open
pub record AnswersAll (refused : Bool) (old new : Stand) : Type 0 where
  pub writes_prefix : WritesPrefix old new
  pub writes_all : WritesAll old new
  pub refuses : has_refusal writes_all.replies ≡ refused
  pub ends : EndsAll writes_all.replies old.ahead new.ahead
  pub reading : (new.state.list ≡ None) ⊎ EndsReading false old new

-- the replies to the lines that end by LF among these bytes were written, and none of them ends the run
pub record AnswersEnded (given : List ℕ) (old new : Stand) : Type 0 where
  pub writes_prefix : WritesPrefix old new
  pub within : length given ≤ old.ahead.budget
  pub none_pending : new.ahead.pending ≡ []
  pub replies : List Reply
  pub are_replies : AreReplies old.state (ended_lines given) replies
  pub behind : new.state ≡ state_behind old.state replies
  pub none_quits : has_quit replies ≡ false
  pub writes : Writes (texts replies) old.out new.out

-- the bytes that were given are those, and a read failed then
abbrev pub AnswersToFault : Stand → Stand → Type 0
AnswersToFault old new = (given : List ℕ) × (old.ahead.bytes ≡ prepend_known given new.ahead.bytes) × AnswersEnded given old new

-- those are as many as the budget, and one byte more came
pub record AnswersToLimit (old new : Stand) : Type 0 where
  pub given : List ℕ
  pub byte : ℕ
  pub gave : old.ahead.bytes ≡ prepend_known given (prepend_known (byte ∷ []) new.ahead.bytes)
  pub spent : length given ≡ old.ahead.budget
  pub answers : AnswersEnded given old new

-- what a run over the lines does
abbrev pub Runs : Status → Stand → Stand → Type 0
Runs Done old new = AnswersAll false old new
Runs Refused old new = AnswersAll true old new
Runs Usage old new = ⊥
Runs ReadFault old new = AnswersToFault old new
Runs WriteFault old new = (cut : IsCutShort old new) × IfSome old.out.room (λ left. left < length (texts cut.part.replies))
Runs NoMemory old new = IsCutShort old new
Runs InputLimit old new = AnswersToLimit old new
