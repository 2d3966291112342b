-- The command that the tokens of a line give.
use Rattle.std.specs.Prelude.{ℕ, List, [], ◌∷◌, drop, map, Option, Some, unwrap_or, slice_index}
use Rattle.std.specs.Option.{option_map}
use Rattle.arrayvec.specs.ArrayVec.{ArrayVec}
use Rattle.cox_base.specs.NamedType.{type_matrix}
use Rattle.cox_base.specs.WordText.{word_of}
use Rattle.cox_tokens.specs.Number.{value_of}
use Rattle.cox_command.specs.CommandWord.{command_word_of}
use Rattle.cox_command.specs.LineRefusal.{argument}
use Rattle.cox_command.specs.declared.command.Command.{Command}
use Rattle.cox_command.specs.declared.command.Command.TheVariants as gives
use Rattle.cox_command.specs.declared.inquiry.Inquiry.TheVariants as asks
use Rattle.cox_command.specs.declared.command_word.CommandWord.{CommandWord}
use Rattle.cox_command.specs.declared.command_word.CommandWord.TheVariants.{Named, Matrix, Quit, Jobs, One, Two, Plain, Work}

-- the word at a place among the arguments, in a group of this rank
abbrev pub word_argument : Option ℕ → List (List ℕ) → ℕ → ArrayVec ℕ
word_argument rank arguments place = record { items = word_of (unwrap_or rank 0) (argument arguments place) }

-- The command that a command word gives with these arguments, where the group that is set, if any, has this rank. `type` sets the matrix of
-- a named type, `matrix` one by its rank and its labels above the diagonal, row by row.
abbrev pub command_by : CommandWord → List (List ℕ) → Option ℕ → Command
command_by Named arguments rank = gives.Group (type_matrix (slice_index (argument arguments 0) 0) (value_of (argument arguments 1)))
command_by Matrix arguments rank = gives.Group (record { rank = value_of (argument arguments 0); labels = map value_of (drop 1 arguments) })
command_by Quit arguments rank = gives.Quit
command_by Jobs arguments rank = gives.Jobs
command_by (One kind) arguments rank = gives.Ask (asks.One kind (word_argument rank arguments 0))
command_by (Two kind) arguments rank = gives.Ask (asks.Two kind (word_argument rank arguments 0) (word_argument rank arguments 1))
command_by (Plain kind) arguments rank = gives.Ask (asks.Plain kind)
command_by Work arguments rank = gives.Ask (asks.Work (value_of (argument arguments 0)) (value_of (argument arguments 1)))

-- the command that the tokens of a line give, if they give one: none gives nothing, else the first one is a command word
abbrev pub command_of : List (List ℕ) → Option ℕ → Option Command
command_of [] rank = Some gives.Nothing
command_of (name ∷ arguments) rank = option_map (λ word. command_by word arguments rank) (command_word_of name)
