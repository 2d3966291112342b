-- How a snapshot of blocks is stored: it has no bytes.
use Rattle.std.proofs.Common.{◌≡◌, List, [], ◌∷◌, ◌++◌, ap, ◌∙◌}
use mir.Val.{Val, vstruct, vcons, vnil, of_list}
use denote.Laws.{Is}
use denote.RattleType.{RattleType}
use denote.Struct.Struct.{Struct}
use denote.Struct.Owning.{shape}
use Rattle.std.specs.contracts.snapshot.Snapshot as Snapshot
use Rattle.cox_shell.specs.contracts.list.Blocks as Blocks

abbrev pub Whole : RattleType
Whole = Snapshot.the_row Blocks.the_row

abbrev pub stored : Val
stored = vstruct (vcons (vstruct vnil) vnil)

abbrev pub Words : RattleType
Words = Struct (shape (Snapshot.the_type Blocks.the_row))

pub told : (vs : List Val) → Is Words (tt, tt) vs → vs ≡ stored ∷ []
told vs is = is.1.0 ∙ ap (λ (ws : List Val). vstruct (of_list (ws ++ [])) ∷ []) is.1.1.0.1.0
