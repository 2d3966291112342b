-- The reply to a line by its content, where no list is open.
use Rattle.std.specs.Prelude.{◌≡◌, ℕ, List, IsSomeAnd, MatchOption}
use Rattle.cox_tokens.specs.Tokens.{tokens_of}
use Rattle.cox_command.specs.LineRefusal.{line_refusal}
use Rattle.cox_command.specs.CommandReading.{command_of}
use Rattle.cox_shell.specs.Reply.{State, Reply, rank_of, refusal}
use Rattle.cox_shell.specs.CommandReply.{IsCommandReply}

-- The reply to a line with this content: its refusal, or the reply to the command that it gives.
unfoldable pub IsContentReply : State → List ℕ → Reply → Type 0
IsContentReply state content reply = MatchOption (line_refusal (tokens_of content) (rank_of state))
    (IsSomeAnd (command_of (tokens_of content) (rank_of state)) (λ command. IsCommandReply command state reply))
    (λ why. reply ≡ refusal state why)
