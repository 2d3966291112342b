-- A finite group has one listing of its W-graph.
use Rattle.std.proofs.Common.{◌≡◌, ℕ, ◌<◌, Bool, true, false, not, List, [], ◌∷◌, length, map, filter, slice_index_or, ℤ, pos, refl, sym}
use Rattle.std.proofs.Common.{ap}
use Rattle.std.proofs.Common.{◌∙◌, ◌↔◌, arith}
use Rattle.std.specs.Ordering.{int_eq}
use Rattle.std.proofs.lemmas.Bool.Decides.{Decides-int_eq}
use Rattle.std.proofs.lemmas.List.{ext_get_or, get_or-map, length-map}
use Rattle.std.proofs.lemmas.List.Elements.{All-map}
use Rattle.cox_base.specs.IntegerMatrix.{IntegerMatrix}
use Rattle.cox_base.specs.Admissible.{IsAdmissible}
use Rattle.cox_base.specs.Members.{IsElement}
use Rattle.cox_base.specs.SortedList.{IsListOf}
use Rattle.cox_context.proofs.ShortLexLists.{IsListOf-unique, IsListOf-filter}
use Rattle.cox_wgraph.specs.Edges.{IsEdgeValue}
use Rattle.cox_wgraph.specs.Listing.{Joined, IsNeighbour, AreJoined, Vertex, AreVertices}
use Rattle.cox_wgraph.proofs.EdgeValues.{edge-exists, edge-unique}

-- ---- one listing

joined-path : (j k : Joined) → j.element ≡ k.element → j.value ≡ k.value → j ≡ k
joined-path j k e f = λ i. record { element = e i; value = f i }

vertex-path : (v w : Vertex) → v.element ≡ w.element → v.joined ≡ w.joined → v ≡ w
vertex-path v w e h = λ i. record { element = e i; joined = h i }

module _ (A : IntegerMatrix) (g : IsAdmissible A) where
  pub one_list : (x : List ℕ) (list other : List Joined) → AreJoined A x list → AreJoined A x other → list ≡ other
  one_list x list other p q = ext_get_or (record { element = []; value = pos 0 }) list other size at
    where
      words : map (λ (j : Joined). j.element) list ≡ map (λ (j : Joined). j.element) other
      words = IsListOf-unique (IsNeighbour A x) _ _ p.elements q.elements

      size : length list ≡ length other
      size = sym (length-map list (λ (j : Joined). j.element)) ∙ ap length words ∙ length-map other (λ (j : Joined). j.element)

      at : (k : ℕ) → k < length list
          → slice_index_or list k (record { element = []; value = pos 0 }) ≡ slice_index_or other k (record { element = []; value = pos 0 })
      at k l =
          let m : k < length other = omega (arith, l, size) in
          let j : Joined = slice_index_or list k (record { element = []; value = pos 0 }) in
          let o : Joined = slice_index_or other k (record { element = []; value = pos 0 }) in
          let e : j.element ≡ o.element =
          sym (get_or-map (λ (j : Joined). j.element) list k (record { element = []; value = pos 0 }) [] l)
          ∙ ap (λ (ws : List (List ℕ)). slice_index_or ws k []) words
          ∙ get_or-map (λ (j : Joined). j.element) other k (record { element = []; value = pos 0 }) [] m in
          let same : IsEdgeValue A x j.element o.value = rw e (q.values k (record { element = []; value = pos 0 }) m)
          in joined-path j o e (edge-unique A g x j.element j.value o.value (p.values k (record { element = []; value = pos 0 }) l) same)

  pub one_listing : (vertices others : List Vertex) → AreVertices A vertices → AreVertices A others
      → vertices ≡ others
  one_listing vertices others p q = ext_get_or (record { element = []; joined = [] }) vertices others size at
    where
      words : map (λ (v : Vertex). v.element) vertices ≡ map (λ (v : Vertex). v.element) others
      words = IsListOf-unique (IsElement A) _ _ p.elements q.elements

      size : length vertices ≡ length others
      size = sym (length-map vertices (λ (v : Vertex). v.element)) ∙ ap length words ∙ length-map others (λ (v : Vertex). v.element)

      at : (k : ℕ) → k < length vertices → slice_index_or vertices k (record { element = []; joined = [] })
          ≡ slice_index_or others k (record { element = []; joined = [] })
      at k l =
          let m : k < length others = omega (arith, l, size) in
          let v : Vertex = slice_index_or vertices k (record { element = []; joined = [] }) in
          let w : Vertex = slice_index_or others k (record { element = []; joined = [] }) in
          let e : v.element ≡ w.element =
          sym (get_or-map (λ (v : Vertex). v.element) vertices k (record { element = []; joined = [] }) [] l)
          ∙ ap (λ (ws : List (List ℕ)). slice_index_or ws k []) words
          ∙ get_or-map (λ (v : Vertex). v.element) others k (record { element = []; joined = [] }) [] m in
          let a : AreJoined A v.element v.joined = p.each k (record { element = []; joined = [] }) l in
          let b : AreJoined A w.element w.joined = q.each k (record { element = []; joined = [] }) m in
          let c : AreJoined A v.element w.joined = rw e b in vertex-path v w e (one_list v.element v.joined w.joined a c)

  -- ---- some listing

  value : List ℕ → List ℕ → ℤ
  value x y = (edge-exists A g x y).0

  value-edge : (x y : List ℕ) → IsEdgeValue A x y (value x y)
  unfolding value
  value-edge x y = (edge-exists A g x y).1

  abbrev is_joined : List ℕ → List ℕ → Bool
  is_joined x y = not (int_eq (value x y) (pos 0))

  abbrev joined : List ℕ → List ℕ → Joined
  joined x y = record { element = y; value = value x y }

  abbrev joined_list : List (List ℕ) → List ℕ → List Joined
  joined_list elements x = map (joined x) (filter (is_joined x) elements)

  not-true : (b : Bool) → not b ≡ true → b ≡ true → ⊥
  not-true true e f = absurd (cc)
  not-true false e f = absurd (cc)

  not-false : (b : Bool) → (b ≡ true → ⊥) → not b ≡ true
  not-false true none = absurd (none refl)
  not-false false none = refl

  joined-words : (x : List ℕ) (ys : List (List ℕ)) → map (λ (j : Joined). j.element) (map (joined x) ys) ≡ ys
  joined-words x [] = refl
  joined-words x (y ∷ ys) = ap (λ (zs : List (List ℕ)). y ∷ zs) (joined-words x ys)

  joined-are : (elements : List (List ℕ)) (x : List ℕ) → IsListOf (IsElement A) elements → AreJoined A x (joined_list elements x)
  joined-are elements x all = record {
    elements = rw (joined-words x (filter (is_joined x) elements))
        (IsListOf-filter (IsElement A) (IsNeighbour A x) (is_joined x) elements all tells (λ y n. n.element));
    values = All-map (λ j. IsEdgeValue A x j.element j.value) (joined x) (filter (is_joined x) elements)
        (λ k d l. value-edge x (slice_index_or (filter (is_joined x) elements) k d));
  }
    where
      tells : (y : List ℕ) → IsElement A y → (is_joined x y ≡ true) ↔ IsNeighbour A x y
      tells y is = (
        λ t. record {
          element = is;
          joined = (
            value x y,
            record {
              value = value-edge x y;
              some = λ z. not-true (int_eq (value x y) (pos 0)) t ((Decides-int_eq (value x y) (pos 0)).1 z);
            },
          );
        },
        λ n. not-false (int_eq (value x y) (pos 0)) (λ t. n.joined.1.some
            (edge-unique A g x y n.joined.0 (value x y) n.joined.1.value (value-edge x y) ∙ (Decides-int_eq (value x y) (pos 0)).0 t)),
      )

  abbrev vertex : List (List ℕ) → List ℕ → Vertex
  vertex elements x = record { element = x; joined = joined_list elements x }

  vertex-words : (elements xs : List (List ℕ)) → map (λ (v : Vertex). v.element) (map (vertex elements) xs) ≡ xs
  vertex-words elements [] = refl
  vertex-words elements (x ∷ xs) = ap (λ (zs : List (List ℕ)). x ∷ zs) (vertex-words elements xs)

  pub some_listing : (elements : List (List ℕ)) → IsListOf (IsElement A) elements → (vertices : List Vertex) × AreVertices A vertices
  some_listing elements all = (
    map (vertex elements) elements,
    record {
      elements = rw (vertex-words elements elements) all;
      each = All-map (λ v. AreJoined A v.element v.joined) (vertex elements) elements
          (λ k d l. joined-are elements (slice_index_or elements k d) all);
    },
  )
