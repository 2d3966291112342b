-- Lines in a list of blocks: those that part it, and those that no block may have.
use Rattle.std.specs.Prelude.{ℕ, ◌||◌, if◌then◌else◌, List, [], ◌∷◌, Option, None, Some, codes}
use Rattle.std.specs.Str.{bytes_eq}
use Rattle.cox_command.specs.CommandWord.{command_word_of}
use Rattle.cox_command.specs.declared.blocks.ListWord.{ListWord}
use Rattle.cox_command.specs.declared.blocks.ListWord.TheVariants.{Next, End}
use Rattle.cox_command.specs.declared.refusal.Refusal.{Refusal}
use Rattle.cox_command.specs.declared.refusal.Refusal.TheVariants.{UnknownCommand, WrongCount}
use Rattle.cox_command.specs.declared.command_word.CommandWord.{CommandWord}
use Rattle.cox_command.specs.declared.command_word.CommandWord.TheVariants.{Named, Matrix, Quit, Jobs}

-- what a line with these tokens does in a list, if it parts the list: its only token is `next` or `end`
abbrev pub list_word_of : List (List ℕ) → Option ListWord
list_word_of (token ∷ []) = if bytes_eq token (codes "next") then Some Next else (if bytes_eq token (codes "end") then Some End else None)
list_word_of _ = None

-- The refusal of a line of a block by its first token, where this names a command, or none. These are no commands in a block: what sets a
-- group, ends the run or opens a list. Nor does a line begin with `next` or `end` there, unless it is one that parts the list.
abbrev pub word_refusal : List ℕ → Option CommandWord → Option Refusal
word_refusal token None = if bytes_eq token (codes "next") || bytes_eq token (codes "end") then Some WrongCount else None
word_refusal token (Some Named) = Some UnknownCommand
word_refusal token (Some Matrix) = Some UnknownCommand
word_refusal token (Some Quit) = Some UnknownCommand
word_refusal token (Some Jobs) = Some UnknownCommand
word_refusal token (Some _) = None

-- why a line with these tokens may not stand in a block, if it may not
abbrev pub block_refusal : List (List ℕ) → Option Refusal
block_refusal [] = None
block_refusal (token ∷ arguments) = word_refusal token (command_word_of token)
