-- What the calls that read a line answer.
use Rattle.std.specs.Prelude.{◌≡◌, ◌≤◌, ℕ, List, Option, None, Some, Result, Ok, Err, IsSomeAnd}
use Rattle.cox_base.specs.Matrix.{IsWord}
use Rattle.cox_tokens.specs.Tokens.{tokens_of}
use Rattle.cox_command.specs.LineRefusal.{command_refusal, line_refusal}
use Rattle.cox_command.specs.CommandReading.{command_by, command_of}
use Rattle.cox_command.specs.declared.limits.TheConstants.{MAX_START, MAX_COUNT}
use Rattle.cox_command.specs.declared.refusal.Refusal.{Refusal}
use Rattle.cox_command.specs.declared.command.Command.{Command}
use Rattle.cox_command.specs.declared.command.Command.TheVariants.{Ask}
use Rattle.cox_command.specs.declared.command.LineFault.{LineFault}
use Rattle.cox_command.specs.declared.inquiry.Inquiry.{Inquiry}
use Rattle.cox_command.specs.declared.inquiry.Inquiry.TheVariants.{One, Two, Plain, Work}
use Rattle.cox_command.specs.declared.command_word.CommandWord.{CommandWord}

-- the numbers of `work` are of their ranges
abbrev pub AreWorkNumbers : ℕ → ℕ → Type 0
AreWorkNumbers start count = (start ≤ MAX_START) × (1 ≤ count) × (count ≤ MAX_COUNT)

-- the words of an inquiry are over the letters of a group of this rank, and its numbers are of their ranges
abbrev pub HasLetters : ℕ → Inquiry → Type 0
HasLetters rank (One kind w) = IsWord rank w.items
HasLetters rank (Two kind y w) = IsWord rank y.items × IsWord rank w.items
HasLetters rank (Plain kind) = Unit {0}
HasLetters rank (Work start count) = AreWorkNumbers start count

-- where a command is an inquiry, a group is set, over whose letters its words are
abbrev pub HasWordsOf : Command → Option ℕ → Type 0
HasWordsOf (Ask inquiry) rank = IsSomeAnd rank (λ n. HasLetters n inquiry)
HasWordsOf _ rank = Unit {0}

-- reading a line: its refusal, or the command that it gives
abbrev pub ParsesAs : Result Command LineFault → List ℕ → Option ℕ → Type 0
ParsesAs (Ok command) line rank =
    (line_refusal (tokens_of line) rank ≡ None) × (command_of (tokens_of line) rank ≡ Some command) × HasWordsOf command rank
ParsesAs (Err fault) line rank = line_refusal (tokens_of line) rank ≡ Some fault.refusal

-- the same of the tokens of a line
abbrev pub ReadsTokens : Result Command Refusal → List (List ℕ) → Option ℕ → Type 0
ReadsTokens (Ok command) tokens rank =
    (line_refusal tokens rank ≡ None) × (command_of tokens rank ≡ Some command) × HasWordsOf command rank
ReadsTokens (Err refusal) tokens rank = line_refusal tokens rank ≡ Some refusal

-- the same of a command word and its arguments
abbrev pub ReadsArguments : Result Command Refusal → CommandWord → List (List ℕ) → Option ℕ → Type 0
ReadsArguments (Ok command) word arguments rank =
    (command_refusal (Some word) arguments rank ≡ None) × (command ≡ command_by word arguments rank) × HasWordsOf command rank
ReadsArguments (Err refusal) word arguments rank = command_refusal (Some word) arguments rank ≡ Some refusal
