-- The lines of a block as a script.
use Rattle.std.specs.Prelude.{◌≡◌, ℕ, List, None}
use Rattle.cox_tokens.specs.Line.{content_of}
use Rattle.cox_tokens.specs.Tokens.{tokens_of}
use Rattle.cox_command.specs.BlockLines.{block_refusal}
use Rattle.cox_shell.specs.Reply.{Kept}
use Rattle.cox_shell.specs.LineReply.{content_refusal}

-- neither its bytes nor its place in a block refuses a line
abbrev pub CanStand : List ℕ → Type 0
CanStand line = (content_refusal (content_of line) ≡ None) × (block_refusal (tokens_of (content_of line)) ≡ None)

-- such a line as it is kept
abbrev pub kept_of : List ℕ → Kept
kept_of line = record { content = content_of line; refused = None }
