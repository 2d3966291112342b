-- What a session keeps of the list that is open. Of one that is too long it keeps no more than makes it so: its end is refused, whatever
-- follows.
use Rattle.std.specs.Prelude.{◌≡◌, ◌⊎◌, ◌≤◌, ◌+◌, true, false, length}
use Rattle.std.specs.Option.{option_map}
use Rattle.cox_shell.specs.declared.limits.TheConstants.{MAX_BLOCKS, MAX_LINES}
use Rattle.cox_shell.specs.Reply.{Kept, OpenList, State}
use Rattle.cox_shell.specs.OpenLists.{then_line, then_block, kept_lines, is_long}

-- a list, and lists with more lines and blocks behind it
pub data IsContinued (kept : OpenList) : OpenList → Type 0 where
  itself : IsContinued kept kept
  line_behind : {list : OpenList} → IsContinued kept list → (line : Kept) → IsContinued kept (then_line list line)
  block_behind : {list : OpenList} → IsContinued kept list → IsContinued kept (then_block list)

-- a list with one more line, or one more block
abbrev pub IsOneMore : OpenList → OpenList → Type 0
IsOneMore list more = (more ≡ then_block list) ⊎ ((line : Kept) × (more ≡ then_line list line))

-- What is kept is the whole list, unless that is too long. Then it is the beginning of the list, up to the line or block that makes it too
-- long.
abbrev pub IsKeptOf : OpenList → OpenList → Type 0
IsKeptOf kept list = ((kept ≡ list) × (is_long list ≡ false)) ⊎ ((is_long kept ≡ true) × (is_long list ≡ true) × IsContinued kept list
    × (short : OpenList) × (is_long short ≡ false) × IsOneMore short kept)

-- no more is kept than makes a list too long
abbrev pub IsBounded : OpenList → Type 0
IsBounded list = (length list ≤ MAX_BLOCKS + 1) × (length (kept_lines list) ≤ MAX_LINES + 1)

-- the state with one more line, or one more block, in the list that is open
abbrev pub with_line : State → Kept → State
with_line state line = record { limits = state.limits; group = state.group; list = option_map (λ list. then_line list line) state.list }

abbrev pub with_block : State → State
with_block state = record { limits = state.limits; group = state.group; list = option_map then_block state.list }
