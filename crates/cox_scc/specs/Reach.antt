-- Directed graphs by their edges: what is reachable, and the classes of vertices that reach each other.
use Rattle.std.specs.Prelude.{◌≡◌, ℕ, ◌<◌, ◌≤◌, ◌↔◌, List, Contains, slice_index}

-- the list of edges, each as where it begins and where it ends, has one from a to b
abbrev pub HasEdge : List (ℕ × ℕ) → ℕ → ℕ → Type 0
HasEdge edges a b = Contains edges (a, b)

-- edges lead from a to b: a is b, or there is an edge from a and edges lead on from its end
pub data Reaches (IsEdge : ℕ → ℕ → Type 0) : ℕ → ℕ → Type 0 where
  itself : (a : ℕ) → Reaches IsEdge a a
  onward : (a b c : ℕ) → IsEdge a b → Reaches IsEdge b c → Reaches IsEdge a c

-- each of the two vertices reaches the other
abbrev pub ReachEachOther : (ℕ → ℕ → Type 0) → ℕ → ℕ → Type 0
ReachEachOther IsEdge a b = Reaches IsEdge a b × Reaches IsEdge b a

-- two of the n vertices have equal class numbers exactly where each reaches the other
abbrev pub AreClasses : (ℕ → ℕ → Type 0) → ℕ → List ℕ → Type 0
AreClasses IsEdge n classes =
    (a b : ℕ) → a < n → b < n → (slice_index classes a ≡ slice_index classes b) ↔ ReachEachOther IsEdge a b

-- the number of the class of vertex a is its least vertex: it is a vertex of the class, and no vertex of the class is less
pub record IsLeastOfClass (n : ℕ) (classes : List ℕ) (a : ℕ) : Type 0 where
  pub vertex : slice_index classes a < n
  pub member : slice_index classes (slice_index classes a) ≡ slice_index classes a
  pub least : (b : ℕ) → b < n → slice_index classes b ≡ slice_index classes a → slice_index classes a ≤ b
