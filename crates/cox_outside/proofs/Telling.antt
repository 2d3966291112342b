-- What a reader that goes on tells.
use Rattle.std.proofs.Common.{◌≡◌, false, List, ℕ, Option, Some, None, IsSome, refl}
use Rattle.cox_outside.specs.declared.line_reader.Next.{Next}
use Rattle.cox_outside.specs.declared.line_reader.Next.TheVariants.{Line, Long, Byte, End, Failed, Limit}
use Rattle.cox_outside.specs.declared.line_reader.Stop.{Stop}
use Rattle.cox_tokens.specs.Line.{content_of}
use Rattle.cox_outside.specs.Supply.{Supply, SourceCause}
use Rattle.cox_outside.specs.Ahead.{Ahead}
use Rattle.cox_outside.specs.Reader.{ShowsContent, TakesNext, ReadsNext, tells_fault}

-- a line was taken, and this is shown of it
pub ReadsNext-line : (next : Next) (halt : Option Stop) (line : List ℕ) (old new : Ahead) → TakesNext halt line old new
    → ShowsContent next (content_of line) → ReadsNext next halt old new
ReadsNext-line (Line text) halt line old new takes shows = (line, takes, shows)
ReadsNext-line (Long count) halt line old new takes shows = (line, takes, shows)
ReadsNext-line (Byte place) halt line old new takes shows = (line, takes, shows)
ReadsNext-line End halt line old new takes shows = absurd shows
ReadsNext-line Failed halt line old new takes shows = absurd shows
ReadsNext-line Limit halt line old new takes shows = absurd shows

-- what shows a line tells of no fault
ShowsContent-no_fault : (next : Next) (content : List ℕ) → ShowsContent next content → tells_fault None next ≡ false
ShowsContent-no_fault (Line text) content shows = refl
ShowsContent-no_fault (Long count) content shows = refl
ShowsContent-no_fault (Byte place) content shows = refl
ShowsContent-no_fault End content shows = absurd shows
ShowsContent-no_fault Failed content shows = absurd shows
ShowsContent-no_fault Limit content shows = absurd shows

-- where a line is shown, no fault is told, and there was none
pub SourceCause-shown : (next : Next) (content : List ℕ) (halt : Option Stop) (old new : Supply) → ShowsContent next content → halt ≡ None
    → SourceCause old new false → SourceCause old new (tells_fault halt next)
SourceCause-shown next content halt old new shows going cause = rw (going, ShowsContent-no_fault next content shows) cause

-- a reader that goes on has not stopped
pub none_is_not_some : (halt : Option Stop) → halt ≡ None → IsSome halt → ⊥
none_is_not_some None none some = cc
none_is_not_some (Some stop) none some = cc
