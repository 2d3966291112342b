-- Lists of blocks that are open.
use Rattle.std.specs.Prelude.{Bool, ◌||◌, nat_lt, List, [], ◌∷◌, ◌++◌, length}
use Rattle.std.specs.List.{flat_map}
use Rattle.cox_shell.specs.declared.limits.TheConstants.{MAX_BLOCKS, MAX_LINES}
use Rattle.cox_shell.specs.Reply.{Kept, OpenList}

-- a line behind the last of the last block
abbrev pub then_line : OpenList → Kept → OpenList
then_line [] line = (line ∷ []) ∷ []
then_line (block ∷ []) line = (block ++ line ∷ []) ∷ []
then_line (block ∷ next ∷ blocks) line = block ∷ then_line (next ∷ blocks) line

-- an empty block behind the last one
abbrev pub then_block : OpenList → OpenList
then_block list = list ++ [] ∷ []

-- the lines of all blocks, in their order
abbrev pub kept_lines : OpenList → List Kept
kept_lines list = flat_map (λ block. block) list

-- whether there are too many blocks, or too many lines in all
abbrev pub is_long : OpenList → Bool
is_long list = nat_lt MAX_BLOCKS (length list) || nat_lt MAX_LINES (length (kept_lines list))
