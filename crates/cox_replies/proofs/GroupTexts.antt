-- The texts of W-graphs and of cells, from the number of items on.
use Rattle.std.proofs.Common.{◌≡◌, ℕ, zero, suc, ◌+◌, ◌≤◌, ◌<◌, nat_lt, subst, arith, false, true, List, [], ◌∷◌, ◌++◌, length, map, All}
use Rattle.std.proofs.Common.{decimal, get_or, sym, ap, ◌∙◌, ℤ}
use Rattle.std.specs.List.{flat_map, range_with_len}
use Rattle.std.proofs.lemmas.List.Elements.{All-nil, All-cons, All-filter}
use Rattle.std.specs.Global.{Vec}
use Rattle.std.proofs.lemmas.List.{length-map, get_or-map}
use Rattle.std.proofs.lemmas.List.Folds.{flat_map-map}
use Rattle.cox_base.specs.Matrix.{IsWord, IsLetter}
use Rattle.cox_base.specs.ShortLex.{letters}
use Rattle.cox_base.specs.Length.{word_length}
use Rattle.cox_base.specs.SideDescents.{times_letter, descent_set}
use Rattle.cox_base.specs.declared.side.Side.{Side}
use Rattle.cox_base.specs.IntegerMatrix.{IntegerMatrix}
use Rattle.cox_base.specs.Admissible.{IsAdmissible}
use Rattle.cox_base.specs.Members.{IsElement}
use Rattle.cox_base.specs.SortedList.{IsListOf}
use Rattle.cox_context.specs.Numbers.{word_at}
use Rattle.cox_context.proofs.ShortLexLists.{IsListOf-unique}
use Rattle.cox_print.specs.AnswerText.{head_text, edge_text, members_text, list_text}
use Rattle.cox_print.specs.MemberText.{member_text}
use Rattle.cox_wgraph.specs.declared.edge.Edge.{Edge}
use Rattle.cox_wgraph.specs.Listing.{Joined, Vertex, AreVertices, AreJoined}
use Rattle.cox_wgraph.specs.NumberedEdges.{joined_by, joined_of}
use Rattle.cox_wgraph.proofs.Listings.{one_list}
use Rattle.cox_cells.specs.NumberedCells.{lists_of, words_of}
use Rattle.cox_replies.specs.GroupReply.{vertex_text}

-- an edge, by the member that it leads to
abbrev pub edge_at_text : ℕ → List (List ℕ) → Edge → List ℕ
edge_at_text rank members e = edge_text rank (word_at members e.to) e.value

pub edge-same : (rank r : ℕ) (x y : List ℕ) (m n : ℤ) → r ≡ rank → x ≡ y → m ≡ n → edge_text r x m ≡ edge_text rank y n
edge-same rank r x y m n ranks words values = λ i. edge_text (ranks i) (words i) (values i)

pub edges-text : (rank : ℕ) (members : List (List ℕ)) (edges : List Edge)
    → flat_map (λ (j : Joined). edge_text rank j.element j.value) (joined_of members edges) ≡ flat_map (edge_at_text rank members) edges
edges-text rank members edges = flat_map-map (λ (j : Joined). edge_text rank j.element j.value) (joined_by members) edges

-- a member behind the first of its cell
abbrev pub other_text : ℕ → List (List ℕ) → ℕ → List ℕ
other_text rank members i = member_text rank (word_at members i) false

pub member_text-others : (rank : ℕ) (members : List (List ℕ)) (others : List ℕ)
    → flat_map (λ y. member_text rank y false) (map (word_at members) others) ≡ flat_map (other_text rank members) others
member_text-others rank members others = flat_map-map (λ y. member_text rank y false) (word_at members) others

-- a cell, behind the end of the line before
abbrev pub cell_line : ℕ → List (List ℕ) → Vec ℕ → List ℕ
cell_line rank members cell = 10 ∷ members_text rank (map (word_at members) cell.items)

pub cells-text : (rank : ℕ) (members : List (List ℕ)) (cells : List (Vec ℕ))
    → list_text (map (members_text rank) (words_of members cells)) ≡ decimal (length cells) ++ flat_map (cell_line rank members) cells
cells-text rank members cells =
    let lists = lists_of cells in
    let words = words_of members cells in
    let count : length (map (members_text rank) words) ≡ length cells =
    length-map words (members_text rank) ∙ length-map lists (map (word_at members)) ∙ length-map cells (λ (cell : Vec ℕ). cell.items) in
    let items = flat_map-map (λ item. 10 ∷ item) (members_text rank) words
    ∙ flat_map-map (λ word. 10 ∷ members_text rank word) (map (word_at members)) lists
    ∙ flat_map-map (λ list. 10 ∷ members_text rank (map (word_at members) list)) (λ (cell : Vec ℕ). cell.items) cells in
    ap (λ n. decimal n ++ flat_map (λ item. 10 ∷ item) (map (members_text rank) words)) count
    ∙ ap (λ t. decimal (length cells) ++ t) items

-- a vertex, behind the end of the line before
abbrev pub vertex_line : ℕ → (List ℕ → List ℕ) → Vertex → List ℕ
vertex_line rank label v = 10 ∷ vertex_text rank label v

abbrev pub no_vertex : Vertex
no_vertex = record { element = []; joined = [] }

module _ (A : IntegerMatrix) (members : List (List ℕ)) (all : IsListOf (IsElement A) members) (vertices : List Vertex)
    (are : AreVertices A vertices) where
  -- the vertices are the members
  elements-are : map (λ (v : Vertex). v.element) vertices ≡ members
  elements-are = IsListOf-unique (IsElement A) (map (λ (v : Vertex). v.element) vertices) members are.elements all

  pub vertices-count : length vertices ≡ length members
  vertices-count = sym (length-map vertices (λ (v : Vertex). v.element)) ∙ ap length elements-are

  pub vertex-element : (i : ℕ) → i < length vertices → (get_or vertices i no_vertex).element ≡ word_at members i
  vertex-element i below =
      sym (get_or-map (λ (v : Vertex). v.element) vertices i no_vertex [] below) ∙ ap (λ words. word_at words i) elements-are

  pub vertices-text : (rank : ℕ) (label : List ℕ → List ℕ) → list_text (map (vertex_text rank label) vertices)
      ≡ decimal (length members) ++ flat_map (vertex_line rank label) vertices
  vertices-text rank label =
      ap (λ n. decimal n ++ flat_map (λ item. 10 ∷ item) (map (vertex_text rank label) vertices))
      (length-map vertices (vertex_text rank label) ∙ vertices-count)
      ∙ ap (λ t. decimal (length members) ++ t) (flat_map-map (λ item. 10 ∷ item) (vertex_text rank label) vertices)

-- the text of a vertex by its parts
pub head-is : (members : List (List ℕ)) (i : ℕ) (v : Vertex) → v.element ≡ word_at members i → (rank : ℕ) (label : List ℕ → List ℕ)
    → head_text rank (word_at members i) (label (word_at members i)) ≡ head_text rank v.element (label v.element)
head-is members i v at rank label = ap (λ x. head_text rank x (label x)) (sym at)

pub joined-are : (A : IntegerMatrix) → IsAdmissible A → (members : List (List ℕ)) (i : ℕ) (v : Vertex) → AreJoined A v.element v.joined
    → v.element ≡ word_at members i
    → (edges : List Edge) → AreJoined A (word_at members i) (joined_of members edges) → joined_of members edges ≡ v.joined
joined-are A g members i v is at edges are = one_list A g (word_at members i) (joined_of members edges) v.joined are
    (subst (λ (x : List ℕ). AreJoined A x v.joined) at is)

-- descents are letters
pub all-letters : (n a m : ℕ) → 1 ≤ a → a + m ≤ n + 1 → All (IsLetter n) (range_with_len a m)
all-letters n a zero least most = All-nil (IsLetter n)
all-letters n a (suc m) least most = All-cons (IsLetter n) a (range_with_len (a + 1) m)
    (record { from_one = least; to_rank = omega (arith, most) }) (all-letters n (a + 1) m (omega arith) (omega (arith, most)))

pub descents-letters : (side : Side) (A : IntegerMatrix) (x : List ℕ) → IsWord A.rank (descent_set side A x)
unfolding descent_set letters
descents-letters side A x = All-filter (λ s. nat_lt (word_length A (times_letter side s x)) (word_length A x)) (IsLetter A.rank)
    (letters A.rank) (all-letters A.rank 1 A.rank (omega arith) (omega arith))

-- the members of a cell by the first of them
pub cell-parts : (rank : ℕ) (members : List (List ℕ)) (cell others : List ℕ) (first : ℕ) → cell ≡ first ∷ others
    → members_text rank (map (word_at members) cell)
    ≡ member_text rank (word_at members first) true ++ flat_map (λ y. member_text rank y false) (map (word_at members) others)
cell-parts rank members cell others first parts = ap (λ list. members_text rank (map (word_at members) list)) parts

-- the numbers of a cell are those of members, where those of all cells are
pub cell-within : (P : ℕ → Type 0) (cells : List (Vec ℕ)) (k : ℕ) (cell : Vec ℕ) → k < length cells → cell ≡ get_or cells k cell
    → All (All P) (lists_of cells) → All P cell.items
cell-within P cells k cell below is all = subst (λ (list : List ℕ). All P list)
    (get_or-map (λ (one : Vec ℕ). one.items) cells k cell [] below ∙ ap (λ (one : Vec ℕ). one.items) (sym is))
    (all k [] (rw (length-map cells (λ (one : Vec ℕ). one.items)) below))
