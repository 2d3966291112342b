-- The W-graph of a finite group as it is listed, without its labels, which are the descent sets of its vertices on one side (Kazhdan and
-- Lusztig 1979, section 1 and theorem 1.3).
use Rattle.std.specs.Prelude.{ℕ, List, map, All, ℤ}
use Rattle.cox_base.specs.IntegerMatrix.{IntegerMatrix}
use Rattle.cox_base.specs.Members.{IsElement}
use Rattle.cox_base.specs.SortedList.{IsListOf}
use Rattle.cox_wgraph.specs.Edges.{IsEdgeValue, IsJoined}

-- an element that is joined to another, and the value of the edge
abbrev pub Joined : Type 0
Joined = record { element : List ℕ; value : ℤ }

-- an element that is joined to x
abbrev pub IsNeighbour : IntegerMatrix → List ℕ → List ℕ → Type 0
IsNeighbour A x y = record { element : IsElement A y; joined : IsJoined A x y }

-- the elements that are joined to x, in ShortLex order, with the values of the edges
pub record AreJoined (A : IntegerMatrix) (x : List ℕ) (list : List Joined) : Type 0 where
  pub elements : IsListOf (IsNeighbour A x) (map (λ j. j.element) list)
  pub values : All (λ j. IsEdgeValue A x j.element j.value) list

-- an element, and what is joined to it
abbrev pub Vertex : Type 0
Vertex = record { element : List ℕ; joined : List Joined }

-- the vertices of the graph: all elements in ShortLex order, each with what is joined to it
pub record AreVertices (A : IntegerMatrix) (vertices : List Vertex) : Type 0 where
  pub elements : IsListOf (IsElement A) (map (λ v. v.element) vertices)
  pub each : All (λ v. AreJoined A v.element v.joined) vertices
