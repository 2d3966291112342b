-- What a line of a block gives, by the command that its tokens give or by their refusal; and the reply to it.
use Rattle.std.proofs.Common.{◌≡◌, ℕ, List, [], ◌∷◌, Option, Some, None, MatchOption, Result, Ok}
use Rattle.std.proofs.Common.{refl, sym, ap, ◌∙◌, subst}
use Rattle.std.specs.Option.{option_map, option_or}
use Rattle.cox_tokens.specs.Tokens.{tokens_of}
use Rattle.cox_command.specs.declared.refusal.Refusal.{Refusal}
use Rattle.cox_command.specs.declared.refusal.Refusal.TheVariants.{UnknownCommand}
use Rattle.cox_command.specs.declared.command.Command.{Command}
use Rattle.cox_command.specs.declared.command.Command.TheVariants as command
use Rattle.cox_command.specs.declared.command.LineFault.{LineFault}
use Rattle.cox_command.specs.declared.inquiry.Inquiry.{Inquiry}
use Rattle.cox_command.specs.declared.command_word.CommandWord.{CommandWord}
use Rattle.cox_command.specs.declared.command_word.CommandWord.TheVariants as word
use Rattle.cox_command.specs.CommandWord.{command_word_of}
use Rattle.cox_command.specs.LineRefusal.{line_refusal}
use Rattle.cox_command.specs.CommandReading.{command_by, command_of}
use Rattle.cox_command.specs.ParseContract.{ParsesAs}
use Rattle.cox_command.specs.BlockLines.{word_refusal, block_refusal}
use Rattle.cox_shell.specs.declared.block_line.BlockLine.{BlockLine}
use Rattle.cox_shell.specs.declared.block_line.BlockLine.TheVariants.{Blank, Ask, Refused}
use Rattle.cox_shell.specs.Reply.{Kept, State, Reply, rank_of, refusal}
use Rattle.cox_shell.specs.ContentReply.{IsContentReply}
use Rattle.cox_shell.specs.Blocks.{IsBlockLineReply}
use Rattle.cox_shell.specs.BlockReading.{Gives, IsBlockReply}
use Rattle.cox_shell.proofs.ContentReply.{IsContentReply-command, IsContentReply-refusal}

-- the refusal of a line of a block that gives this command
abbrev refusal_by : Command → Option Refusal
refusal_by command.Nothing = None
refusal_by (command.Ask inquiry) = None
refusal_by _ = Some UnknownCommand

by_word : (verb : CommandWord) (name : List ℕ) (arguments : List (List ℕ)) (rank : Option ℕ)
    → word_refusal name (Some verb) ≡ refusal_by (command_by verb arguments rank)
by_word word.Named name arguments rank = refl
by_word word.Matrix name arguments rank = refl
by_word word.Quit name arguments rank = refl
by_word word.Jobs name arguments rank = refl
by_word (word.One kind) name arguments rank = refl
by_word (word.Two kind) name arguments rank = refl
by_word (word.Plain kind) name arguments rank = refl
by_word word.Work name arguments rank = refl

-- whether a line may stand in a block is seen of the command that it gives
pub block_refusal-command : (tokens : List (List ℕ)) (rank : Option ℕ) (what : Command) → command_of tokens rank ≡ Some what
    → block_refusal tokens ≡ refusal_by what
block_refusal-command [] rank what given = let same : command.Nothing ≡ what = cc given in ap refusal_by same
block_refusal-command (name ∷ arguments) rank what given = by_name (command_word_of name) given where
  by_name : (o : Option CommandWord) → option_map (λ verb. command_by verb arguments rank) o ≡ Some what
      → word_refusal name o ≡ refusal_by what
  by_name None given = absurd (cc given)
  by_name (Some verb) given =
      let same : command_by verb arguments rank ≡ what = cc given in by_word verb name arguments rank ∙ ap refusal_by same

-- a line that is parsed as a command on elements gives that, unless it may not stand in a block
pub parsed-asks : (result : Result Command LineFault) (line : List ℕ) (rank : Option ℕ) (inquiry : Inquiry)
    → result ≡ Ok (command.Ask inquiry) → ParsesAs result line rank → Gives (Ask inquiry) line rank
parsed-asks result line rank inquiry is parses =
    let read : ParsesAs (Ok (command.Ask inquiry)) line rank = subst (λ r. ParsesAs r line rank) is parses in
    (block_refusal-command (tokens_of line) rank (command.Ask inquiry) read.1, read.0, read.1, read.2)

-- no value is there
pub none_of : {X : Type 0} (o : Option X) → ((x : X) → o ≡ Some x → ⊥) → o ≡ None
none_of None never = refl
none_of (Some x) never = absurd (never x refl)

-- the reply to what a line gives is the reply to the line
module _ (state : State) (content : List ℕ) (reply : Reply) where
  by_refusal : (o : Option Refusal) (why : Refusal) → option_or o (line_refusal (tokens_of content) (rank_of state)) ≡ Some why
      → reply ≡ refusal state why → MatchOption o (IsContentReply state content reply) (λ other. reply ≡ refusal state other)
  by_refusal None why refused is =
      subst (λ r. IsContentReply state content r) (sym is) (IsContentReply-refusal state content why refused)
  by_refusal (Some other) why refused is = let same : why ≡ other = cc refused in subst (λ r. reply ≡ refusal state r) same is

  block_reply : (gives : BlockLine) → Gives gives content (rank_of state) → IsBlockReply gives state reply
      → MatchOption (block_refusal (tokens_of content)) (IsContentReply state content reply) (λ why. reply ≡ refusal state why)
  block_reply Blank read is = rw read.0 (IsContentReply-command state content command.Nothing reply read.1 read.2 is)
  block_reply (Ask inquiry) read is = rw read.0 (IsContentReply-command state content (command.Ask inquiry) reply read.1 read.2 is)
  block_reply (Refused why) read is = by_refusal (block_refusal (tokens_of content)) why read is

pub block_line_reply-given : (state : State) (line : Kept) (gives : BlockLine) (rank : Option ℕ) → line.refused ≡ None
    → rank ≡ rank_of state
    → Gives gives line.content rank → (reply : Reply) → IsBlockReply gives state reply → IsBlockLineReply state line reply
block_line_reply-given state line gives rank readable same read reply is =
    rw readable (block_reply state line.content reply gives (subst (λ r. Gives gives line.content r) same read) is)
