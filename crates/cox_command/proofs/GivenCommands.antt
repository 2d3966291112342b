-- Accepted lines give commands.
use Rattle.std.proofs.Common.{◌≡◌, ℕ, List, [], ◌∷◌, Option, Some, None, refl}
use Rattle.cox_command.specs.CommandReading.{command_by, command_of}
use Rattle.cox_command.specs.CommandWord.{command_word_of}
use Rattle.cox_command.specs.LineRefusal.{command_refusal, line_refusal}
use Rattle.cox_command.specs.declared.command.Command.{Command}
use Rattle.cox_command.specs.declared.command_word.CommandWord.{CommandWord}
use Rattle.std.specs.Option.{option_map}

-- the tokens of a line that is not refused give a command
pub accepted-gives : (tokens : List (List ℕ)) (rank : Option ℕ) → line_refusal tokens rank ≡ None
    → (command : Command) × (command_of tokens rank ≡ Some command)
accepted-gives [] rank accepted = (_, refl)
accepted-gives (name ∷ arguments) rank accepted = by_word (command_word_of name) accepted
  where
    by_word : (o : Option CommandWord) → command_refusal o arguments rank ≡ None
        → (command : Command) × (option_map (λ word. command_by word arguments rank) o ≡ Some command)
    by_word None accepted = absurd (cc accepted)
    by_word (Some word) accepted = (command_by word arguments rank, refl)
