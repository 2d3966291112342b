-- What holds during the depth-first pass.
--
-- The vertices that were seen, and whose class is not known yet, stand on a stack in the order in which they were seen. The stack is cut
-- into parts, and `parts` has the places where they begin. The path has the vertices that are being explored: those that wait, and at its
-- end the one that is explored now. The edges of a vertex that were followed are those from its offset up to `next`. For the vertices of
-- the path, the path has that number; all edges of the others on the stack were followed, and no edges of those that were not seen.
use Rattle.std.specs.Prelude.{◌≡◌, ◌≢◌, ℕ, ◌+◌, ◌-◌, ◌*◌, ◌<◌, ◌≤◌, ◌⊎◌, ◌↔◌, ⊤, List, [], ◌∷◌, ◌++◌, length, take, map, slice_index}
use Rattle.std.specs.Prelude.{Bool, true, false, not, slice_index_or, slice_set, vec_len, count_by, Contains}
use Rattle.std.specs.Global.{Vec}
use Rattle.cox_scc.specs.Reach.{Reaches, ReachEachOther}
use Rattle.cox_scc.specs.Sorted.{Leads}
use Rattle.cox_scc.specs.Visits.{Visit, Unseen, Open, Closed, nowhere, visit_by}
use Rattle.cox_scc.specs.declared.adjacency.Adjacency.{Adjacency}
use Rattle.cox_scc.specs.declared.search.Search.{Search}
use Rattle.cox_scc.specs.declared.search.Waiting.{Waiting}
use Rattle.cox_scc.specs.declared.search.Followed.{Followed}

-- a vertex with this visit is closed, or stands on the stack at place b or above
abbrev pub LiesFrom : ℕ → Visit → Type 0
LiesFrom b Unseen = ⊥
LiesFrom b (Open place) = b ≤ place
LiesFrom b Closed = ⊤

-- the places go up
abbrev pub IsIncreasing : List ℕ → Type 0
IsIncreasing places = (i j : ℕ) → i < j → j < length places → slice_index places i < slice_index places j

-- the visits of vertices tell their places on the stack
pub record AreOnStack (n : ℕ) (visit : ℕ → Visit) (stack : ℕ → ℕ) (size : ℕ) : Type 0 where
  pub found : (v place : ℕ) → v < n → visit v ≡ Open place → (place < size) × (stack place ≡ v)
  pub vertex : (place : ℕ) → place < size → stack place < n
  pub visited : (place : ℕ) → place < size → visit (stack place) ≡ Open place

-- each vertex on the stack reaches the next one, which reaches it back unless a part begins there
pub record IsStackChain (IsEdge : ℕ → ℕ → Type 0) (stack : ℕ → ℕ) (size : ℕ) (parts : List ℕ) : Type 0 where
  pub on : (place : ℕ) → place + 1 < size → Reaches IsEdge (stack place) (stack (place + 1))
  pub back : (place : ℕ) → place + 1 < size → Contains parts (place + 1) ⊎ Reaches IsEdge (stack (place + 1)) (stack place)

-- no edge that was followed leads below the part where it begins, and all edges of the vertices that are not on the path were followed
pub record AreFollowed (n : ℕ) (offset target : ℕ → ℕ) (visit : ℕ → Visit) (next : ℕ → ℕ) (stack : ℕ → ℕ) (size : ℕ) (parts path : List ℕ)
    : Type 0 where
  pub begun : (v : ℕ) → v < n → offset v ≤ next v
  pub within : (v : ℕ) → v < n → next v ≤ offset (v + 1)
  pub fresh : (v : ℕ) → v < n → visit v ≡ Unseen → next v ≡ offset v
  pub ahead : (b place e : ℕ) → Contains parts b → b ≤ place → place < size → offset (stack place) ≤ e → e < next (stack place)
      → LiesFrom b (visit (target e))
  pub whole : (place : ℕ) → place < size → Contains path place ⊎ (next (stack place) ≡ offset (stack place + 1))

-- parts and path go up the stack, and each part begins with a vertex of the path
pub record AreStacked (size : ℕ) (parts path : List ℕ) : Type 0 where
  pub parts_rise : IsIncreasing parts
  pub path_rises : IsIncreasing path
  pub below : (place : ℕ) → Contains path place → place < size
  pub on_path : (b : ℕ) → Contains parts b → Contains path b
  pub first : 0 < size → Contains parts 0

-- the classes of closed vertices are right, and no edge leads out of them
pub record AreSettled (IsEdge : ℕ → ℕ → Type 0) (n : ℕ) (visit : ℕ → Visit) (class : ℕ → ℕ) : Type 0 where
  pub closed : (a b : ℕ) → a < n → visit a ≡ Closed → IsEdge a b → visit b ≡ Closed
  pub same : (a b : ℕ) → a < n → b < n → visit a ≡ Closed → visit b ≡ Closed → (class a ≡ class b) ↔ ReachEachOther IsEdge a b
  pub vertex : (a : ℕ) → a < n → visit a ≡ Closed → class a < n
  pub member : (a : ℕ) → a < n → visit a ≡ Closed → visit (class a) ≡ Closed
  pub number : (a : ℕ) → a < n → visit a ≡ Closed → class (class a) ≡ class a
  pub least : (a b : ℕ) → a < n → b < n → visit a ≡ Closed → visit b ≡ Closed → class b ≡ class a → class a ≤ b

-- what is known of a vertex
abbrev pub visit_of : Search → ℕ → Visit
visit_of search v = visit_by (slice_index_or search.seen.items v false) (slice_index search.places.items v)

-- the lists of a graph have an edge from one vertex to the other
abbrev pub LeadsIn : Adjacency → ℕ → ℕ → Type 0
LeadsIn adjacency = Leads adjacency.offsets.items adjacency.targets.items

-- the places of the vertices of the path
abbrev pub places_of : List Waiting → List ℕ
places_of path = map (λ w. w.place) path

-- what holds between two steps of the pass
pub record IsWalk (adjacency : Adjacency) (search : Search) (path : List Waiting) : Type 0 where
  pub seen_count : vec_len search.seen ≡ adjacency.vertices
  pub places_count : vec_len search.places ≡ adjacency.vertices
  pub classes_count : vec_len search.classes ≡ adjacency.vertices
  pub placed : AreOnStack adjacency.vertices (visit_of search) (slice_index search.stack.items) (vec_len search.stack)
  pub chain : IsStackChain (LeadsIn adjacency) (slice_index search.stack.items) (vec_len search.stack) search.parts.items
  pub next : ℕ → ℕ
  pub resumes : (w : Waiting) → Contains path w → next (slice_index search.stack.items w.place) ≡ w.next
  pub followed : AreFollowed adjacency.vertices (slice_index adjacency.offsets.items) (slice_index adjacency.targets.items)
      (visit_of search) next (slice_index search.stack.items) (vec_len search.stack) search.parts.items (places_of path)
  pub stacked : AreStacked (vec_len search.stack) search.parts.items (places_of path)
  pub settled : AreSettled (LeadsIn adjacency) adjacency.vertices (visit_of search) (slice_index search.classes.items)

-- no vertex that was seen is unseen again
abbrev pub StaySeen : Search → Search → Type 0
StaySeen old new = (v : ℕ) → visit_of new v ≡ Unseen → visit_of old v ≡ Unseen

-- vertex v stands on the stack between two places
pub record Stands (stack : ℕ → ℕ) (low high v : ℕ) : Type 0 where
  pub place : ℕ
  pub above : low ≤ place
  pub below : place < high
  pub is : stack place ≡ v

-- the vertices between two places of the stack become a class by the number `least`, which is the least of them; nothing else changes
pub record BecomeClass (stack : ℕ → ℕ) (low high least : ℕ) (visit later : ℕ → Visit) (class after : ℕ → ℕ) : Type 0 where
  pub closed : (place : ℕ) → low ≤ place → place < high → later (stack place) ≡ Closed
  pub number : (place : ℕ) → low ≤ place → place < high → after (stack place) ≡ least
  pub others : (v : ℕ) → Stands stack low high v ⊎ ((later v ≡ visit v) × (after v ≡ class v))
  pub member : Stands stack low high least
  pub least_is : (place : ℕ) → low ≤ place → place < high → least ≤ stack place

-- the least of the members is their number now, and they are nowhere on the stack; nothing else changes
pub record CloseMembers (members : List ℕ) (least : ℕ) (places later classes after : List ℕ) : Type 0 where
  pub places_count : length later ≡ length places
  pub classes_count : length after ≡ length classes
  pub closed : (k : ℕ) → k < length members → slice_index later (slice_index members k) ≡ nowhere
  pub number : (k : ℕ) → k < length members → slice_index after (slice_index members k) ≡ least
  pub others : (v : ℕ)
      → Contains members v ⊎ ((slice_index later v ≡ slice_index places v) × (slice_index after v ≡ slice_index classes v))

-- the vertices on the stack are open, each at its place
abbrev pub AreOpen : Search → Type 0
AreOpen search = (place : ℕ) → place < vec_len search.stack → visit_of search (slice_index search.stack.items place) ≡ Open place

-- the vertex comes onto the stack, as a part of its own
pub record Enters (old new : Search) (vertex : ℕ) : Type 0 where
  pub opened : visit_of new vertex ≡ Open (vec_len old.stack)
  pub others : (v : ℕ) → v ≢ vertex → visit_of new v ≡ visit_of old v
  pub seen : new.seen.items ≡ slice_set old.seen.items vertex true
  pub places_count : vec_len new.places ≡ vec_len old.places
  pub stack : new.stack.items ≡ old.stack.items ++ vertex ∷ []
  pub parts : new.parts.items ≡ old.parts.items ++ vec_len old.stack ∷ []
  pub classes : new.classes ≡ old.classes

-- the pass goes on at the top of the stack, with the first edge of the vertex there
pub record Begins (adjacency : Adjacency) (old : Search) (vertex : ℕ) (there : Waiting) : Type 0 where
  pub place : there.place ≡ vec_len old.stack
  pub next : there.next ≡ slice_index adjacency.offsets.items vertex

-- the edges from `here` on were followed as far as they lead to vertices that were seen, and `low` is the least place of all these
pub record Follows (seen : List Bool) (places targets : List ℕ) (here : Waiting) (end : ℕ) (followed : Followed) : Type 0 where
  pub begun : here.next ≤ followed.next
  pub within : followed.next ≤ end
  pub was_seen : (e : ℕ) → here.next ≤ e → e < followed.next → slice_index_or seen (slice_index targets e) false ≡ true
  pub unseen : followed.next < end → slice_index_or seen (slice_index targets followed.next) false ≡ false
  pub below : followed.low ≤ here.place
  pub least : (e : ℕ) → here.next ≤ e → e < followed.next → followed.low ≤ slice_index places (slice_index targets e)
  pub met : (followed.low ≡ here.place)
      ⊎ ((e : ℕ) × (here.next ≤ e) × (e < followed.next) × (followed.low ≡ slice_index places (slice_index targets e)))

-- the parts that begin after the place are joined to the one before
pub record Joins (parts fewer : List ℕ) (place : ℕ) : Type 0 where
  pub rise : IsIncreasing fewer
  pub was : (b : ℕ) → Contains fewer b → Contains parts b × (b ≤ place)
  pub kept : (b : ℕ) → Contains parts b → b ≤ place → Contains fewer b

-- the vertices from the place up become a class, and leave the stack
pub record ClosesClass (old new : Search) (low : ℕ) : Type 0 where
  pub seen : new.seen ≡ old.seen
  pub places_count : vec_len new.places ≡ vec_len old.places
  pub classes_count : vec_len new.classes ≡ vec_len old.classes
  pub least : ℕ
  pub become : BecomeClass (slice_index old.stack.items) low (vec_len old.stack) least (visit_of old) (visit_of new)
      (slice_index old.classes.items) (slice_index new.classes.items)
  pub stack : new.stack.items ≡ take low old.stack.items
  pub parts : new.parts ≡ old.parts
  pub waiting : new.waiting ≡ old.waiting

-- the last part becomes a class where it begins at the place; else nothing changes
abbrev pub Finishes : Search → Search → ℕ → Type 0
Finishes old new here =
    ((fewer : Vec ℕ) × (old.parts.items ≡ fewer.items ++ here ∷ []) × ClosesClass (record old { parts = fewer }) new here)
    ⊎ ((slice_index old.parts.items (vec_len old.parts - 1) ≢ here) × (new ≡ old))

-- what falls with each step: twice the vertices that were not seen, and the vertices of the path
abbrev pub work_left : Search → List Waiting → ℕ
work_left search path = 2 * count_by not search.seen.items + length path
