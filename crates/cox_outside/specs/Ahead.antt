-- What lies ahead of a reader of lines, and what was taken of it.
use Rattle.std.specs.Prelude.{◌≡◌, ℕ, ◌+◌, ◌<◌, List, [], ◌∷◌, ◌++◌, length, Option}
use Rattle.std.specs.Option.{option_map}
use Rattle.std.specs.Io.KnownBytes.{prepend_known, IsAtEnd}
use Rattle.cox_tokens.specs.Line.{line_feed, lines_within}
use Rattle.cox_tokens.specs.Unbroken.{IsUnbroken}
use Rattle.cox_outside.specs.Feed.{Feed, bytes_ahead, HasFewPending}

-- the bytes that lie ahead, where they are told, how many of them may be handed out, and those of them that were read
pub record Ahead : Type 0 where
  pub bytes : Option (List ℕ)
  pub budget : ℕ
  pub pending : List ℕ

-- what lies ahead of a feed over a source with these bytes left
abbrev pub ahead : Feed → Option (List ℕ) → Ahead
ahead feed left = record { bytes = bytes_ahead feed left; budget = feed.budget; pending = feed.pending }

-- the lines that lie ahead, where the bytes are told
abbrev pub lines_ahead : Ahead → Option (List (List ℕ))
lines_ahead here = option_map (λ bytes. lines_within here.budget bytes) here.bytes

-- these bytes were taken, the first of what lay ahead
pub record Takes (taken : List ℕ) (old new : Ahead) : Type 0 where
  pub bytes : old.bytes ≡ prepend_known taken new.bytes
  pub cost : old.budget ≡ new.budget + length taken

-- the next line was taken, and the LF that ends it; few bytes were read beyond it
pub record TakesLine (line : List ℕ) (old new : Ahead) : Type 0 where
  pub unbroken : IsUnbroken line
  pub taken : Takes (line ++ line_feed ∷ []) old new
  pub few_pending : HasFewPending new.pending new.budget

-- the last line was taken, which is not empty and ends with the input
pub record TakesLast (line : List ℕ) (old new : Ahead) : Type 0 where
  pub unbroken : IsUnbroken line
  pub taken : Takes line old new
  pub end : IsAtEnd new.bytes
  pub none_pending : new.pending ≡ []
  pub some : 0 < length line

-- the beginning of a line was taken
pub record TakesPart (begun : List ℕ) (old new : Ahead) : Type 0 where
  pub unbroken : IsUnbroken begun
  pub taken : Takes begun old new

-- nothing was left: the input had ended where a line would begin
pub record MeetsEnd (old new : Ahead) : Type 0 where
  pub taken : Takes [] old new
  pub end : IsAtEnd new.bytes
  pub none_pending : new.pending ≡ []

-- a read failed when the beginning of a line was taken, and no byte that was read is left
pub record MeetsFault (old new : Ahead) : Type 0 where
  pub begun : List ℕ
  pub part : TakesPart begun old new
  pub none_pending : new.pending ≡ []

-- all bytes that may be read were, the last of them the beginning of a line, and one more byte came
pub record MeetsLimit (old new : Ahead) : Type 0 where
  pub begun : List ℕ
  pub byte : ℕ
  pub spent : Ahead
  pub part : TakesPart begun old spent
  pub none_left : spent.budget ≡ 0
  pub beyond : spent.bytes ≡ prepend_known (byte ∷ []) new.bytes
  pub stays_spent : new.budget ≡ 0
  pub none_pending : new.pending ≡ []
