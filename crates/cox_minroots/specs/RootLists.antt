-- Lists of distinct roots.
use Rattle.std.specs.Prelude.{ℕ, List, [], ◌∷◌, ◌++◌, slice_index_or, Contains}
use Rattle.cox_reflect.specs.Action.{Vector}
use Rattle.cox_minroots.specs.declared.root.Root.{Root}
use Rattle.cox_minroots.specs.Coordinates.{vector_of}

-- past the end of a list
abbrev pub no_root : Root
no_root = record { root = []; coroot = [] }

abbrev pub root_at : List Root → ℕ → Root
root_at roots i = slice_index_or roots i no_root

-- the coordinates of the root with the number i, and of its coroot
abbrev pub root_of : List Root → ℕ → Vector
root_of roots i = vector_of (root_at roots i).root

abbrev pub coroot_of : List Root → ℕ → Vector
coroot_of roots i = vector_of (root_at roots i).coroot

-- the list with r in it: it stays if r is there, else r goes last
pub data IsInserted (old : List Root) (r : Root) : List Root → Type 0 where
  there : Contains old r → IsInserted old r old
  last : (Contains old r → ⊥) → IsInserted old r (old ++ r ∷ [])
