-- What contracts see of a reader of lines, and what it does.
use Rattle.std.specs.Prelude.{◌≡◌, ℕ, ◌+◌, ◌<◌, ◌≤◌, Bool, true, false, List, [], length, position, Option, Some, None, MatchOption}
use Rattle.std.specs.Option.{option_map}
use Rattle.cox_tokens.specs.declared.limits.TheConstants.{LINE_LIMIT}
use Rattle.cox_outside.specs.declared.limits.TheConstants.{INPUT_LIMIT}
use Rattle.cox_outside.specs.declared.line_reader.Next.{Next}
use Rattle.cox_outside.specs.declared.line_reader.Next.TheVariants.{Line, Long, Byte, End, Failed, Limit}
use Rattle.cox_outside.specs.declared.line_reader.Stop.{Stop}
use Rattle.cox_outside.specs.declared.line_reader.Stop.TheVariants as stop
use Rattle.cox_outside.specs.declared.line_scan.Ended.{Ended}
use Rattle.cox_outside.specs.declared.line_scan.Ended.TheVariants as ended
use Rattle.cox_tokens.specs.Line.{is_foreign, content_of}
use Rattle.cox_outside.specs.Feed.{Feed}
use Rattle.cox_outside.specs.Ahead.{Ahead, ahead, TakesLine, TakesLast, MeetsEnd, MeetsFault, MeetsLimit}

-- what is read ahead, and why the reader stopped, if it did
pub record Reader : Type 0 where
  pub feed : Feed
  pub stop : Option Stop

-- a reader that has read nothing
abbrev pub fresh_reader : Reader
fresh_reader = record { feed = record { pending = []; budget = INPUT_LIMIT }; stop = None }

-- what is told of a line with this content: the content itself, its length if it is long, or the place from 1 of its first foreign byte
abbrev pub ShowsContent : Next → List ℕ → Type 0
ShowsContent (Line text) content = (text.now ≡ content) × (length content ≤ LINE_LIMIT) × (position is_foreign content ≡ None)
ShowsContent (Long count) content = (count ≡ length content) × (LINE_LIMIT < length content)
ShowsContent (Byte place) content = (length content ≤ LINE_LIMIT)
    × (option_map (λ before. before + 1) (position is_foreign content) ≡ Some place)
ShowsContent End content = ⊥
ShowsContent Failed content = ⊥
ShowsContent Limit content = ⊥

-- why there are no more lines, if so
abbrev pub stop_of : Next → Option Stop
stop_of (Line text) = None
stop_of (Long count) = None
stop_of (Byte place) = None
stop_of End = Some stop.End
stop_of Failed = Some stop.Failed
stop_of Limit = Some stop.Limit

-- whether a read failed in this call, and not in one before
abbrev pub tells_fault : Option Stop → Next → Bool
tells_fault (Some stop) next = false
tells_fault None (Line text) = false
tells_fault None (Long count) = false
tells_fault None (Byte place) = false
tells_fault None End = false
tells_fault None Failed = true
tells_fault None Limit = false

-- whether a reader stops where a line ended so
abbrev pub halt_of : Ended → Option Stop
halt_of (ended.Line count by_cr) = None
halt_of (ended.Last count by_cr) = Some stop.End
halt_of ended.End = Some stop.End
halt_of ended.Failed = Some stop.Failed
halt_of ended.Limit = Some stop.Limit

-- a line was taken: by its LF, or by the end of the input, at which the reader stops
abbrev pub TakesNext : Option Stop → List ℕ → Ahead → Ahead → Type 0
TakesNext None line old new = TakesLine line old new
TakesNext (Some stop.End) line old new = TakesLast line old new
TakesNext (Some stop.Failed) line old new = ⊥
TakesNext (Some stop.Limit) line old new = ⊥

-- a line was taken, and is shown
abbrev pub ShowsLine : Next → Option Stop → Ahead → Ahead → Type 0
ShowsLine next halt old new = (line : List ℕ) × TakesNext halt line old new × ShowsContent next (content_of line)

-- What a reader that goes on does, and whether it stops: it takes a line and shows it, or meets the end, a fault or the limit.
abbrev pub ReadsNext : Next → Option Stop → Ahead → Ahead → Type 0
ReadsNext (Line text) halt old new = ShowsLine (Line text) halt old new
ReadsNext (Long count) halt old new = ShowsLine (Long count) halt old new
ReadsNext (Byte place) halt old new = ShowsLine (Byte place) halt old new
ReadsNext End halt old new = MeetsEnd old new × (halt ≡ Some stop.End)
ReadsNext Failed halt old new = MeetsFault old new × (halt ≡ Some stop.Failed)
ReadsNext Limit halt old new = MeetsLimit old new × (halt ≡ Some stop.Limit)

-- What a reader does over a source with these bytes left before and after. One that had stopped says so again and does nothing.
abbrev pub AnswersNext : Next → Reader → Reader → Option (List ℕ) → Option (List ℕ) → Type 0
AnswersNext next old new left_old left_new = MatchOption old.stop
    (ReadsNext next new.stop (ahead old.feed left_old) (ahead new.feed left_new))
    (λ halt. (stop_of next ≡ Some halt) × (new ≡ old) × (left_new ≡ left_old))
