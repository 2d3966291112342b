-- Which lines are refused, and why. Each cause is a test of its own; of those that apply to a line, the first in the order is answered.
use Rattle.std.specs.Prelude.{ℕ, ◌+◌, ◌-◌, ◌*◌, ◌/◌, ◌==◌, Bool, false, not, ◌&&◌, if◌then◌else◌, nat_lt, List, [], ◌∷◌}
use Rattle.std.specs.Prelude.{length, drop, find, Option, None, Some, is_none, is_some, unwrap_or, slice_index_or}
use Rattle.std.specs.List.{list_any, list_all}
use Rattle.cox_base.specs.declared.limits.TheConstants.{MAX_RANK, MAX_LETTERS}
use Rattle.cox_base.specs.Matrix.{is_label}
use Rattle.cox_base.specs.NamedType.{is_type}
use Rattle.cox_base.specs.WordText.{pieces_of, first_foreign}
use Rattle.cox_tokens.specs.Number.{is_number, is_number_in, value_of}
use Rattle.cox_command.specs.CommandWord.{command_word_of}
use Rattle.cox_command.specs.declared.limits.TheConstants.{MAX_START, MAX_COUNT}
use Rattle.cox_command.specs.declared.refusal.Refusal.{Refusal}
use Rattle.cox_command.specs.declared.refusal.Refusal.TheVariants.{UnknownCommand, WrongCount, WrongNumber, UnknownType, WrongLabel}
use Rattle.cox_command.specs.declared.refusal.Refusal.TheVariants.{NoGroup, ForeignLetter, LongWord}
use Rattle.cox_command.specs.declared.command_word.CommandWord.{CommandWord}
use Rattle.cox_command.specs.declared.command_word.CommandWord.TheVariants.{Named, Matrix, Quit, One, Two, Work}

-- the argument at a place, from 0
abbrev pub argument : List (List ℕ) → ℕ → List ℕ
argument arguments place = slice_index_or arguments place []

-- whether a token and a number name a type
abbrev pub names_type : List ℕ → ℕ → Bool
names_type (letter ∷ []) n = is_type letter n
names_type _ n = false

-- Whether a refusal applies to a command with these arguments, where the group that is set, if any, has this rank. WrongCount: the number
-- of arguments is not the command's; for `matrix` it is judged after the rank, if there is an argument at all. WrongNumber: a number
-- argument is no number, or is outside its range; the numbers of `work` are a state of the generator and how many words. NoGroup: the
-- command needs a group, and none is set. UnknownType: there is no such type. WrongLabel: a label is not 0, 2, 3, 4 or 6. LongWord: a word
-- has more pieces than words may have letters. ForeignLetter: a word is not `e` and has a piece that is no letter of the group.
abbrev pub applies : CommandWord → List (List ℕ) → Option ℕ → Refusal → Bool
applies Named arguments rank WrongCount = not (length arguments == 2)
applies Matrix arguments rank WrongCount = if is_number_in 1 MAX_RANK (argument arguments 0)
    then (let n = value_of (argument arguments 0) in not (length arguments == 1 + n * (n - 1) / 2)) else (length arguments == 0)
applies (One kind) arguments rank WrongCount = not (length arguments == 1)
applies (Two kind) arguments rank WrongCount = not (length arguments == 2)
applies Work arguments rank WrongCount = not (length arguments == 2)
applies _ arguments rank WrongCount = not (length arguments == 0)
applies Named arguments rank WrongNumber = not (is_number (argument arguments 1))
applies Matrix arguments rank WrongNumber = not (is_number_in 1 MAX_RANK (argument arguments 0) && list_all is_number (drop 1 arguments))
applies Work arguments rank WrongNumber =
    not (is_number_in 0 MAX_START (argument arguments 0) && is_number_in 1 MAX_COUNT (argument arguments 1))
applies Named arguments rank NoGroup = false
applies Matrix arguments rank NoGroup = false
applies Quit arguments rank NoGroup = false
applies _ arguments rank NoGroup = is_none rank
applies Named arguments rank UnknownType = not (names_type (argument arguments 0) (value_of (argument arguments 1)))
applies Matrix arguments rank WrongLabel = not (list_all (λ token. is_label (value_of token)) (drop 1 arguments))
applies (One kind) arguments rank LongWord = list_any (λ token. nat_lt MAX_LETTERS (length (pieces_of (unwrap_or rank 0) token))) arguments
applies (Two kind) arguments rank LongWord = list_any (λ token. nat_lt MAX_LETTERS (length (pieces_of (unwrap_or rank 0) token))) arguments
applies (One kind) arguments rank ForeignLetter = list_any (λ token. is_some (first_foreign (unwrap_or rank 0) token)) arguments
applies (Two kind) arguments rank ForeignLetter = list_any (λ token. is_some (first_foreign (unwrap_or rank 0) token)) arguments
applies _ arguments rank _ = false

-- the order in which they are tried, after UnknownCommand
abbrev pub refusal_order : List Refusal
refusal_order = WrongCount ∷ WrongNumber ∷ NoGroup ∷ UnknownType ∷ WrongLabel ∷ LongWord ∷ ForeignLetter ∷ []

-- the refusal of a line by its command word and arguments
abbrev pub command_refusal : Option CommandWord → List (List ℕ) → Option ℕ → Option Refusal
command_refusal None arguments rank = Some UnknownCommand
command_refusal (Some word) arguments rank = find (λ why. applies word arguments rank why) refusal_order

-- the refusal of a line with these tokens, if it is refused; a blank line never is
abbrev pub line_refusal : List (List ℕ) → Option ℕ → Option Refusal
line_refusal [] rank = None
line_refusal (name ∷ arguments) rank = command_refusal (command_word_of name) arguments rank
