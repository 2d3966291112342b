-- The preorders on a Coxeter group, and its cells (Kazhdan and Lusztig 1979, section 1). Elements are their normal forms.
use Rattle.std.specs.Prelude.{◌⊎◌, ℕ, ◌<◌, List, length, map, Contains, All}
use Rattle.cox_base.specs.declared.side.Side.{Side}
use Rattle.cox_base.specs.declared.side.Side.TheVariants as Sides
use Rattle.cox_base.specs.IntegerMatrix.{IntegerMatrix}
use Rattle.cox_base.specs.SideDescents.{IsDescent}
use Rattle.cox_base.specs.Members.{IsElement}
use Rattle.cox_base.specs.SortedList.{IsRising, IsListOf}
use Rattle.cox_context.specs.Numbers.{word_at}
use Rattle.cox_wgraph.specs.Listing.{IsNeighbour}
use Rattle.cox_cells.specs.declared.kind.CellKind.{CellKind}
use Rattle.cox_cells.specs.declared.kind.CellKind.TheVariants.{Left, Right, Both}

-- some descent of x on the side is none of y
abbrev pub HasOwnDescent : Side → IntegerMatrix → List ℕ → List ℕ → Type 0
HasOwnDescent side A x y = record { letter : ℕ; descent : IsDescent side A x letter; none : ¬ IsDescent side A y letter }

-- some left descent, for left cells; some right descent, for right cells; either, for two-sided cells
abbrev pub HasOwn : CellKind → IntegerMatrix → List ℕ → List ℕ → Type 0
HasOwn Left A x y = HasOwnDescent Sides.Left A x y
HasOwn Right A x y = HasOwnDescent Sides.Right A x y
HasOwn Both A x y = HasOwnDescent Sides.Left A x y ⊎ HasOwnDescent Sides.Right A x y

-- a step from x to y: they are joined, and some descent of x is none of y
abbrev pub IsStep : CellKind → IntegerMatrix → List ℕ → List ℕ → Type 0
IsStep kind A x y = record { neighbour : IsNeighbour A x y; own : HasOwn kind A x y }

-- x ≤ w in the preorder: a chain of steps leads from x to w, possibly of none
pub data Precedes (kind : CellKind) (A : IntegerMatrix) : List ℕ → List ℕ → Type 0 where
  itself : (x : List ℕ) → Precedes kind A x x
  onward : (x y w : List ℕ) → IsStep kind A x y → Precedes kind A y w → Precedes kind A x w

-- y is in the cell of x: each is below the other
abbrev pub IsInCell : CellKind → IntegerMatrix → List ℕ → List ℕ → Type 0
IsInCell kind A x y = record { element : IsElement A y; forth : Precedes kind A x y; back : Precedes kind A y x }

-- the first word of a list
abbrev pub first_of : List (List ℕ) → List ℕ
first_of cell = word_at cell 0

-- the elements of one cell, in ShortLex order
abbrev pub IsCell : CellKind → IntegerMatrix → List (List ℕ) → Type 0
IsCell kind A cell = record { some : 0 < length cell; all : IsListOf (IsInCell kind A (first_of cell)) cell }

-- the cells of a finite group, in the order of their first members
pub record AreCells (kind : CellKind) (A : IntegerMatrix) (cells : List (List (List ℕ))) : Type 0 where
  pub each : All (IsCell kind A) cells
  pub rising : IsRising (map first_of cells)
  pub whole : (x : List ℕ) → IsElement A x → (cell : List (List ℕ)) × Contains cells cell × Contains cell x
