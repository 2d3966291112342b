-- Steps, classes and cells by the numbers of their members.
use Rattle.std.specs.Prelude.{◌≡◌, ◌⊎◌, ◌↔◌, ⊤, ℕ, ◌+◌, ◌≤◌, ◌<◌, List, [], length, map, slice_index_or, slice_index, IsBitSet}
use Rattle.std.specs.Global.{Vec}
use Rattle.cox_base.specs.declared.side.Side.{Side}
use Rattle.cox_base.specs.declared.side.Side.TheVariants as Sides
use Rattle.cox_base.specs.IntegerMatrix.{IntegerMatrix, integer_matrix}
use Rattle.cox_base.specs.SideDescents.{IsDescent}
use Rattle.cox_context.specs.Closed.{Elements}
use Rattle.cox_context.specs.Numbers.{word_at}
use Rattle.cox_wgraph.specs.Edges.{IsJoined}
use Rattle.cox_row.specs.Rising.{number_at, AreRising}
use Rattle.cox_scc.specs.Reach.{HasEdge}
use Rattle.cox_cells.specs.declared.kind.CellKind.{CellKind}
use Rattle.cox_cells.specs.declared.kind.CellKind.TheVariants.{Left, Right, Both}
use Rattle.cox_cells.specs.declared.steps.Descents.{Descents}
use Rattle.cox_cells.specs.Cells.{HasOwn}

-- a set of letters has one that another set lacks: bit s - 1 is that of the letter s
pub record HasBeyond (set other : ℕ) : Type 0 where
  pub bit : ℕ
  pub among : IsBitSet set bit
  pub lacks : ¬ IsBitSet other bit

-- the descents on a side count for the kind of cells
abbrev pub Counts : CellKind → Side → Type 0
Counts Left Sides.Left = ⊤
Counts Left Sides.Right = ⊥
Counts Right Sides.Left = ⊥
Counts Right Sides.Right = ⊤
Counts Both side = ⊤

-- a set has the descents of x on a side, if they count: bit s - 1 is that of the letter s
abbrev pub IsCountedSet : CellKind → Side → IntegerMatrix → List ℕ → ℕ → Type 0
IsCountedSet kind side A x set = (k : ℕ) → IsBitSet set k ↔ (Counts kind side × IsDescent side A x (k + 1))

-- the descents of x that count
pub record AreDescents (kind : CellKind) (A : IntegerMatrix) (x : List ℕ) (descents : Descents) : Type 0 where
  pub left : IsCountedSet kind Sides.Left A x descents.left
  pub right : IsCountedSet kind Sides.Right A x descents.right

-- some of the one descents on a side are none of the others
abbrev pub HasOwnLetter : Descents → Descents → Type 0
HasOwnLetter own others = HasBeyond own.left others.left ⊎ HasBeyond own.right others.right

-- a step between members, by number
pub record IsNumberedStep (kind : CellKind) (e : Elements) (i j : ℕ) : Type 0 where
  pub within : j < length e.members
  pub joined : IsJoined (integer_matrix e.matrix) (word_at e.members i) (word_at e.members j)
  pub own : HasOwn kind (integer_matrix e.matrix) (word_at e.members i) (word_at e.members j)

-- the edges are the steps between the members before n
pub record AreSteps (kind : CellKind) (e : Elements) (n : ℕ) (edges : List (ℕ × ℕ)) : Type 0 where
  pub step : (i j : ℕ) → HasEdge edges i j → (i < n) × (j < n) × IsNumberedStep kind e i j
  pub all : (i j : ℕ) → i < n → j < n → IsNumberedStep kind e i j → HasEdge edges i j

-- .. and those between n and the first members of a list
pub record AreStepsTo (kind : CellKind) (e : Elements) (n : ℕ) (numbers : List ℕ) (done : ℕ) (edges : List (ℕ × ℕ)) : Type 0 where
  pub step : (i j : ℕ) → HasEdge edges i j → (i ≤ n) × (j ≤ n) × IsNumberedStep kind e i j
  pub all : (i j : ℕ) → i < n → j < n → IsNumberedStep kind e i j → HasEdge edges i j
  pub up : (k : ℕ) → k < done → k < length numbers → IsNumberedStep kind e (number_at numbers k) n → HasEdge edges (number_at numbers k) n
  pub down : (k : ℕ) → k < done → k < length numbers → IsNumberedStep kind e n (number_at numbers k) → HasEdge edges n (number_at numbers k)

-- the step from i to j is added, where some descent of i is none of j
pub record AddsStep (kind : CellKind) (e : Elements) (i j : ℕ) (old new : List (ℕ × ℕ)) : Type 0 where
  pub kept : (a b : ℕ) → HasEdge old a b → HasEdge new a b
  pub added : HasOwn kind (integer_matrix e.matrix) (word_at e.members i) (word_at e.members j) → HasEdge new i j
  pub others : (a b : ℕ) → HasEdge new a b
      → HasEdge old a b ⊎ ((a ≡ i) × (b ≡ j) × HasOwn kind (integer_matrix e.matrix) (word_at e.members i) (word_at e.members j))

-- the numbers of the members of each cell
abbrev pub lists_of : List (Vec ℕ) → List (List ℕ)
lists_of cells = map (λ cell. cell.items) cells

-- the list at a place, and its first number
abbrev pub list_at : List (List ℕ) → ℕ → List ℕ
list_at lists k = slice_index_or lists k []

abbrev pub least_at : List (List ℕ) → ℕ → ℕ
least_at lists k = number_at (list_at lists k) 0

-- where a number stands
pub record IsListed (lists : List (List ℕ)) (i k : ℕ) : Type 0 where
  pub within : k < length lists
  pub place : ℕ
  pub inside : place < length (list_at lists k)
  pub is : number_at (list_at lists k) place ≡ i

-- vertices before n of one class, rising; the first is the class number
pub record IsClassList (classes : List ℕ) (n : ℕ) (list : List ℕ) : Type 0 where
  pub some : 0 < length list
  pub rising : AreRising list
  pub before : (m : ℕ) → m < length list → number_at list m < n
  pub class : (m : ℕ) → m < length list → slice_index classes (number_at list m) ≡ number_at list 0

-- the vertices before n by their classes, in the order of their least numbers. `places` has for each class where its list stands
pub record AreGathered (classes : List ℕ) (n : ℕ) (places : List ℕ) (lists : List (List ℕ)) : Type 0 where
  pub each : (k : ℕ) → k < length lists → IsClassList classes n (list_at lists k)
  pub in_order : (j k : ℕ) → j < k → k < length lists → least_at lists j < least_at lists k
  pub whole : (i : ℕ) → i < n → IsListed lists i (number_at places (slice_index classes i))

-- all vertices by their classes
abbrev pub AreClassLists : List ℕ → List (List ℕ) → Type 0
AreClassLists classes lists = (places : List ℕ) × AreGathered classes (length classes) places lists

-- the words of numbered cells
abbrev pub words_of : List (List ℕ) → List (Vec ℕ) → List (List (List ℕ))
words_of members cells = map (map (word_at members)) (lists_of cells)
