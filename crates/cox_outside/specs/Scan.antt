-- What a scan for the end of a line does.
use Rattle.std.specs.Prelude.{◌≡◌, ℕ, ◌+◌, Bool, true, false, List, length, take}
use Rattle.std.specs.Io.BufRead.{ends_with_byte}
use Rattle.cox_tokens.specs.declared.limits.TheConstants.{LINE_LIMIT}
use Rattle.cox_outside.specs.declared.line_scan.Ended.{Ended}
use Rattle.cox_outside.specs.declared.line_scan.Ended.TheVariants.{Line, Last, End, Failed, Limit}
use Rattle.cox_tokens.specs.Line.{carriage_return}
use Rattle.cox_outside.specs.Ahead.{Ahead, TakesLine, TakesLast, MeetsEnd, MeetsFault, MeetsLimit}

-- what is kept of a line: its length, its first bytes, as many as a line may have and one for a CR, and whether it ends by CR
pub record KeepsLine (line : List ℕ) (count : ℕ) (by_cr : Bool) (buffer : List ℕ) : Type 0 where
  pub size : count ≡ length line
  pub prefix : take count buffer ≡ take (LINE_LIMIT + 1) line
  pub last : by_cr ≡ ends_with_byte carriage_return line

-- whether a read failed
abbrev pub ended_failed : Ended → Bool
ended_failed (Line count by_cr) = false
ended_failed (Last count by_cr) = false
ended_failed End = false
ended_failed Failed = true
ended_failed Limit = false

-- what a scan took, by what it answers
abbrev pub Scans : Ended → List ℕ → Ahead → Ahead → Type 0
Scans (Line count by_cr) buffer old new = (line : List ℕ) × TakesLine line old new × KeepsLine line count by_cr buffer
Scans (Last count by_cr) buffer old new = (line : List ℕ) × TakesLast line old new × KeepsLine line count by_cr buffer
Scans End buffer old new = MeetsEnd old new
Scans Failed buffer old new = MeetsFault old new
Scans Limit buffer old new = MeetsLimit old new
