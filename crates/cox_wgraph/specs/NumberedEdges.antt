-- The edges of a member of a context, by number.
use Rattle.std.specs.Prelude.{◌≡◌, ℕ, ◌<◌, List, length, map, slice_index_or, ℤ, pos}
use Rattle.cox_base.specs.IntegerMatrix.{IntegerMatrix}
use Rattle.cox_context.specs.Numbers.{word_at}
use Rattle.cox_wgraph.specs.declared.edge.Edge.{Edge}
use Rattle.cox_wgraph.specs.Edges.{IsEdge}
use Rattle.cox_wgraph.specs.Listing.{Joined}

-- the edge at a place
abbrev pub edge_at : List Edge → ℕ → Edge
edge_at edges k = slice_index_or edges k (record { to = 0; value = pos 0 })

-- the edges of the member with the number i: to all members that it is joined to, by rising number
pub record AreEdges (A : IntegerMatrix) (members : List (List ℕ)) (i : ℕ) (edges : List Edge) : Type 0 where
  pub rising : (j k : ℕ) → j < k → k < length edges → (edge_at edges j).to < (edge_at edges k).to
  pub within : (k : ℕ) → k < length edges → (edge_at edges k).to < length members
  pub edge : (k : ℕ) → k < length edges → IsEdge A (word_at members i) (word_at members (edge_at edges k).to) (edge_at edges k).value
  pub whole : (j : ℕ) (m : ℤ) → j < length members → IsEdge A (word_at members i) (word_at members j) m
      → (k : ℕ) × (k < length edges) × ((edge_at edges k).to ≡ j)

-- what an edge leads to
abbrev pub joined_by : List (List ℕ) → Edge → Joined
joined_by members e = record { element = word_at members e.to; value = e.value }

abbrev pub joined_of : List (List ℕ) → List Edge → List Joined
joined_of members edges = map (joined_by members) edges
