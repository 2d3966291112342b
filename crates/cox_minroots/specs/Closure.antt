-- Lists of small roots on the way to all of them.
use Rattle.std.specs.Prelude.{◌≡◌, ℕ, ◌+◌, ◌-◌, ◌*◌, ◌<◌, ◌≤◌, List, length, slice_index}
use Rattle.cox_base.specs.declared.limits.TheConstants.{MAX_RANK}
use Rattle.cox_base.specs.Matrix.{IsLetter}
use Rattle.cox_base.specs.IntegerMatrix.{IntegerMatrix}
use Rattle.cox_reflect.specs.Action.{simple_root, reflect}
use Rattle.cox_small.specs.SmallRoots.{IsShortStep, IsSmall}
use Rattle.cox_minroots.specs.declared.root.Root.{Root}
use Rattle.cox_minroots.specs.declared.fault.RootFault.{RootFault}
use Rattle.cox_minroots.specs.declared.fault.RootFault.TheVariants.{TooMany, NoMemory}
use Rattle.cox_minroots.specs.RootLists.{root_at, root_of, coroot_of}

-- one coordinate for each letter up to the greatest rank, none of them above `most`
pub record AreCoordinatesUpTo (most : ℕ) (xs : List ℕ) : Type 0 where
  pub full : length xs ≡ MAX_RANK
  pub small : (k : ℕ) → slice_index xs k ≤ most

-- different small roots, with small coordinates
pub record AreSmall (A : IntegerMatrix) (roots : List Root) : Type 0 where
  pub small : (i : ℕ) → i < length roots → IsSmall A (root_of roots i) (coroot_of roots i)
  pub different : (i j : ℕ) → i < j → j < length roots → root_of roots i ≡ root_of roots j → ⊥
  pub row : (i : ℕ) → i < length roots → AreCoordinatesUpTo (1 + 3 * i) (root_at roots i).root
  pub corow : (i : ℕ) → i < length roots → AreCoordinatesUpTo (1 + 3 * i) (root_at roots i).coroot

-- the simple roots up to that of the letter n come first
pub record HasSimple (roots : List Root) (n : ℕ) : Type 0 where
  pub within : n ≤ length roots
  pub is : (s : ℕ) → IsLetter n s → root_of roots (s - 1) ≡ simple_root s

-- if s makes a short step from the root i then the list has the image
pub record HasStep (A : IntegerMatrix) (roots : List Root) (i s : ℕ) : Type 0 where
  pub image : IsShortStep A s (root_of roots i) (coroot_of roots i) → (j : ℕ) × (j < length roots)
      × (root_of roots j ≡ reflect A s (root_of roots i))

-- new begins with old
pub record IsLonger (old new : List Root) : Type 0 where
  pub longer : length old ≤ length new
  pub same : (i : ℕ) → i < length old → root_at new i ≡ root_at old i

-- all the small roots, the simple ones first
pub record AreAllSmall (A : IntegerMatrix) (roots : List Root) : Type 0 where
  pub small : AreSmall A roots
  pub simple : HasSimple roots A.rank
  pub steps : (i s : ℕ) → i < length roots → IsLetter A.rank s → HasStep A roots i s

-- a fact for the number that TooMany tells
abbrev pub WhenTooMany : (ℕ → Type 0) → RootFault → Type 0
WhenTooMany P (TooMany seen) = P seen
WhenTooMany P NoMemory = Unit {0}
