-- What a line of a block gives, and the reply to that.
use Rattle.std.specs.Prelude.{◌≡◌, ℕ, List, Option, None, Some, IsSomeAnd}
use Rattle.std.specs.Option.{option_or}
use Rattle.cox_tokens.specs.Tokens.{tokens_of}
use Rattle.cox_command.specs.declared.command.Command.TheVariants as command
use Rattle.cox_command.specs.BlockLines.{block_refusal}
use Rattle.cox_command.specs.LineRefusal.{line_refusal}
use Rattle.cox_command.specs.CommandReading.{command_of}
use Rattle.cox_command.specs.ParseContract.{HasLetters}
use Rattle.cox_shell.specs.declared.block_line.BlockLine.{BlockLine}
use Rattle.cox_shell.specs.declared.block_line.BlockLine.TheVariants.{Blank, Ask, Refused}
use Rattle.cox_shell.specs.declared.block_line.Reading.{Reading}
use Rattle.cox_shell.specs.Reply.{State, Reply, refusal, silence}
use Rattle.cox_shell.specs.CommandReply.{IsInquiryReply}

-- where a line gives a command, a group is set, over whose letters its words are
abbrev pub HasBlockWords : BlockLine → Option ℕ → Type 0
HasBlockWords (Ask inquiry) rank = IsSomeAnd rank (λ n. HasLetters n inquiry)
HasBlockWords _ rank = Unit {0}

-- A line of a block with this content gives this, where the group that is set, if any, has this rank. Its refusal is that of a line that
-- may not stand in a block, or else that of the line.
abbrev pub Gives : BlockLine → List ℕ → Option ℕ → Type 0
Gives Blank content rank = (block_refusal (tokens_of content) ≡ None) × (line_refusal (tokens_of content) rank ≡ None)
    × (command_of (tokens_of content) rank ≡ Some command.Nothing)
Gives (Ask inquiry) content rank = (block_refusal (tokens_of content) ≡ None) × (line_refusal (tokens_of content) rank ≡ None)
    × (command_of (tokens_of content) rank ≡ Some (command.Ask inquiry)) × HasBlockWords (Ask inquiry) rank
Gives (Refused why) content rank = option_or (block_refusal (tokens_of content)) (line_refusal (tokens_of content) rank) ≡ Some why

-- what was read of a line is what it gives, if it was read
abbrev pub IsReadingOf : Option Reading → List ℕ → Type 0
IsReadingOf None content = Unit {0}
IsReadingOf (Some reading) content = Gives reading.gives content reading.rank

-- the reply to what a line of a block gives: a blank line is answered nothing
abbrev pub IsBlockReply : BlockLine → State → Reply → Type 0
IsBlockReply Blank state reply = reply ≡ silence state
IsBlockReply (Ask inquiry) state reply = IsInquiryReply inquiry state reply
IsBlockReply (Refused why) state reply = reply ≡ refusal state why
