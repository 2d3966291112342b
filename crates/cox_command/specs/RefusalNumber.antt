-- The numbers of refusals.
use Rattle.std.specs.Prelude.{ℕ}
use Rattle.cox_command.specs.declared.refusal.Refusal.{Refusal}
use Rattle.cox_command.specs.declared.refusal.Refusal.TheVariants.{UnknownCommand, WrongCount, WrongNumber, UnknownType, WrongLabel}
use Rattle.cox_command.specs.declared.refusal.Refusal.TheVariants.{NoGroup, ForeignLetter, LongWord, LongLine, ForeignByte}
use Rattle.cox_command.specs.declared.refusal.Refusal.TheVariants.{ManyRoots, LargeInterval, LargeRow, FarApart, LongList}

-- the number that the line `error N` tells
abbrev pub refusal_number : Refusal → ℕ
refusal_number UnknownCommand = 10
refusal_number WrongCount = 11
refusal_number WrongNumber = 12
refusal_number UnknownType = 13
refusal_number WrongLabel = 14
refusal_number NoGroup = 15
refusal_number ForeignLetter = 16
refusal_number LongWord = 17
refusal_number LongLine = 18
refusal_number ForeignByte = 19
refusal_number ManyRoots = 21
refusal_number LargeInterval = 31
refusal_number LargeRow = 32
refusal_number FarApart = 34
refusal_number LongList = 35
