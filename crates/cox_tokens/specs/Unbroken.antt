-- Bytes of one line.
use Rattle.std.specs.Prelude.{◌≢◌, ℕ, List, All}
use Rattle.cox_tokens.specs.Line.{line_feed}

-- no byte of it is LF
abbrev pub IsUnbroken : List ℕ → Type 0
IsUnbroken bytes = All (λ byte. byte ≢ line_feed) bytes
