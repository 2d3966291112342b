-- The edges of a member, as a part of the list of all edges.
use Rattle.std.proofs.Common.{◌≡◌, ◌≢◌, ℕ, suc, ◌+◌, ◌-◌, ◌≤◌, ◌<◌, List, [], length, take, drop, map, slice_index_or, Contains, pos}
use Rattle.std.proofs.Common.{sym, ap, ◌∙◌, ⊎_elim, arith}
use Rattle.std.proofs.lemmas.Bool.{cases_lt}
use Rattle.std.proofs.lemmas.List.{length-take-le, get_or-take, get_or-drop, get_or-map, get_or_default, length-map, length-drop}
use Rattle.std.proofs.lemmas.List.Elements.{All-map}
use Rattle.cox_base.specs.IntegerMatrix.{IntegerMatrix, integer_matrix}
use Rattle.cox_base.specs.Admissible.{IsAdmissible}
use Rattle.cox_context.specs.Closed.{Elements}
use Rattle.cox_base.specs.Members.{IsElement}
use Rattle.cox_context.specs.Numbers.{word_at}
use Rattle.cox_context.proofs.PlacedWords.{IsPlaced, contains-at, contains-placed, placed-contains}
use Rattle.cox_base.specs.SortedList.{IsListOf}
use Rattle.cox_wgraph.specs.declared.edge.Edge.{Edge}
use Rattle.cox_wgraph.specs.Edges.{IsEdgeValue, IsEdge, IsJoined}
use Rattle.cox_wgraph.specs.Listing.{Joined, IsNeighbour, AreJoined}
use Rattle.cox_wgraph.specs.NumberedEdges.{edge_at, AreEdges, joined_by, joined_of}
use Rattle.cox_wgraph.specs.Flat.{rank, start_of}
use Rattle.cox_wgraph.specs.Building.{IsGraph}
use Rattle.cox_wgraph.proofs.Ranks.{ranked, rank-up, rank-less, total-next, total-up, total-zero}
use Rattle.cox_wgraph.proofs.EdgeValues.{edge-unique}

module _ (e : Elements) (g : IsAdmissible (integer_matrix e.matrix)) (ends : List ℕ) (edges : List Edge) (h : IsGraph e ends edges) (i : ℕ)
    (l : i < length e.members) where
  pub start-is : (start : ℕ) → (i ≡ 0 → start ≡ 0) → (0 < i → start ≡ slice_index_or ends (i - 1) 0)
      → start ≡ start_of h.values (length e.members) i
  start-is start first later = ⊎_elim
      (λ (some : 0 < i). let q : i - 1 + 1 ≡ i = omega (arith, some)
      in later some ∙ h.ends_at (i - 1) (omega (arith, l, h.size)) ∙ ap (start_of h.values (length e.members)) q)
      (λ (none : i ≤ 0). let z : i ≡ 0 = omega arith in first z ∙ sym (total-zero (λ b. rank (h.values b) (length e.members)))
      ∙ ap (start_of h.values (length e.members)) (sym z)) (cases_lt 0 i)

  pub end-after_start : slice_index_or ends i 0 ≡ start_of h.values (length e.members) i + rank (h.values i) (length e.members)
  end-after_start =
      let next : i + 1 ≡ suc i = omega arith
      in h.ends_at i (omega (arith, l, h.size)) ∙ ap (start_of h.values (length e.members)) next
      ∙ total-next (λ b. rank (h.values b) (length e.members)) i

  pub end-within : slice_index_or ends i 0 ≤ length edges
  end-within =
      omega (
        arith,
        end-after_start,
        h.placed.size,
        total-next (λ b. rank (h.values b) (length e.members)) i,
        total-up (λ b. rank (h.values b) (length e.members)) (suc i) (length e.members) (omega (arith, l)),
      )

  module _ (start end : ℕ) (start_is : start ≡ start_of h.values (length e.members) i) (end_is : end ≡ slice_index_or ends i 0) where
    count_is : end - start ≡ rank (h.values i) (length e.members)
    count_is = omega (arith, start_is, end_is, end-after_start)

    size : length (take (end - start) (drop start edges)) ≡ rank (h.values i) (length e.members)
    size = length-take-le (end - start) (drop start edges)
        (omega (arith, length-drop start edges, start_is, end_is, end-after_start, end-within)) ∙ count_is

    -- the edge with a rank
    placed-at : (b : ℕ) → b < length e.members → h.values i b ≢ pos 0
        → edge_at (take (end - start) (drop start edges)) (rank (h.values i) b) ≡ record { to = b; value = h.values i b }
    placed-at b m some =
        let less : rank (h.values i) b < rank (h.values i) (length e.members) = rank-less (h.values i) b (length e.members) m some
        in get_or-take (end - start) (drop start edges) (rank (h.values i) b) (record { to = 0; value = pos 0 })
        (omega (arith, less, count_is))
        ∙ get_or-drop start edges (rank (h.values i) b) (record { to = 0; value = pos 0 })
        ∙ ap (λ n. edge_at edges (n + rank (h.values i) b)) start_is
        ∙ h.placed.at i b l m some less

    -- the edge at a place
    record IsPlacedAt (k : ℕ) : Type 0 where
      to : ℕ
      within : to < length e.members
      some : h.values i to ≢ pos 0
      rank_is : rank (h.values i) to ≡ k
      is : edge_at (take (end - start) (drop start edges)) k ≡ record { to = to; value = h.values i to }

    at : (k : ℕ) → k < length (take (end - start) (drop start edges)) → IsPlacedAt k
    at k m =
        let r = ranked (h.values i) (length e.members) k (omega (arith, m, size))
        in record {
          to = r.vertex;
          within = r.within;
          some = r.some;
          rank_is = r.is;
          is = ap (λ n. edge_at (take (end - start) (drop start edges)) n) (sym r.is) ∙ placed-at r.vertex r.within r.some;
        }

    edge_of : (b : ℕ) → b < length e.members → h.values i b ≢ pos 0
        → IsEdge (integer_matrix e.matrix) (word_at e.members i) (word_at e.members b) (h.values i b)
    edge_of b m some = record { value = h.are i b l m; some = some }

    pub listed_edges : AreEdges (integer_matrix e.matrix) e.members i (take (end - start) (drop start edges))
    listed_edges = record {
      rising = λ j k less m. rises j k less (at j (omega (arith, less, m))) (at k m);
      within = λ k m. let p = at k m in omega (arith, ap (λ (d : Edge). d.to) p.is, p.within);
      edge = λ k m. let p = at k m in rw p.is (edge_of p.to p.within p.some);
      whole = λ j m lj is.
          let e_is : h.values i j ≡ m = edge-unique (integer_matrix e.matrix) g (word_at e.members i) (word_at e.members j) (h.values i j)
          m (h.are i j l lj) is.value
          in let some : h.values i j ≢ pos 0 = λ z. is.some (sym e_is ∙ z)
          in (
            rank (h.values i) j,
            omega (arith, size, rank-less (h.values i) j (length e.members) lj some),
            ap (λ (d : Edge). d.to) (placed-at j lj some),
          );
    }
      where
        rises : (j k : ℕ) → j < k → IsPlacedAt j → IsPlacedAt k
            → (edge_at (take (end - start) (drop start edges)) j).to < (edge_at (take (end - start) (drop start edges)) k).to
        rises j k less p q = ⊎_elim
            (λ (low : p.to < q.to). omega (arith, ap (λ (d : Edge). d.to) p.is, ap (λ (d : Edge). d.to) q.is, low))
            (λ (high : q.to ≤ p.to). absurd (omega (arith, rank-up (h.values i) q.to p.to high, p.rank_is, q.rank_is, less)))
            (cases_lt p.to q.to)

-- ---- the elements that they lead to

module _ (A : IntegerMatrix) (members : List (List ℕ)) (i : ℕ) (edges : List Edge) (h : AreEdges A members i edges)
    (all : IsListOf (IsElement A) members) where
  ends_of : List (List ℕ)
  ends_of = map (λ j. j.element) (joined_of members edges)

  joined-size : length (map (λ j. j.element) (joined_of members edges)) ≡ length edges
  joined-size = length-map (joined_of members edges) _ ∙ length-map edges _

  joined-at : (k : ℕ) → k < length edges → word_at (map (λ j. j.element) (joined_of members edges)) k ≡ word_at members (edge_at edges k).to
  joined-at k l =
      get_or-map (λ (j : Joined). j.element) (joined_of members edges) k (record { element = []; value = pos 0 }) []
      (omega (arith, l, length-map edges (joined_by members)))
      ∙ ap (λ (j : Joined). j.element) (get_or-map (joined_by members) edges k (record { to = 0; value = pos 0 })
      (record { element = []; value = pos 0 }) l)

  neighbour-at : (k : ℕ) → k < length edges → IsNeighbour A (word_at members i) (word_at members (edge_at edges k).to)
  neighbour-at k l = record {
    element = all.sound (word_at members (edge_at edges k).to) (contains-at members (edge_at edges k).to (h.within k l));
    joined = ((edge_at edges k).value, h.edge k l);
  }

  pub joined-of_edges : AreJoined A (word_at members i) (joined_of members edges)
  joined-of_edges = record {
    elements = record {
      rising = λ j k less m.
          let n : k < length edges = omega (arith, m, joined-size)
          in rw (joined-at j (omega (arith, less, n)), joined-at k n)
          (all.rising (edge_at edges j).to (edge_at edges k).to (h.rising j k less n) (h.within k n));
      sound = λ y c. let p = contains-placed (map (λ j. j.element) (joined_of members edges)) y c in let n : p.i < length edges = omega
          (arith, p.within, joined-size)
          in rw (sym p.is ∙ joined-at p.i n) (neighbour-at p.i n);
      whole = λ y b. whole y b (contains-placed members y (all.whole y b.element)) b.joined;
    };
    values = All-map (λ j. IsEdgeValue A (word_at members i) j.element j.value) (joined_by members) edges
        (λ k d l. rw (get_or_default edges k d (record { to = 0; value = pos 0 }) l) (h.edge k l).value);
  }
    where
      whole : (y : List ℕ) → IsNeighbour A (word_at members i) y → IsPlaced members y → IsJoined A (word_at members i) y
          → Contains (map (λ j. j.element) (joined_of members edges)) y
      whole y b p (m, is) = let r = h.whole p.i m p.within (rw p.is is)
          in placed-contains (map (λ j. j.element) (joined_of members edges)) y
          (record { i = r.0; within = omega (arith, r.1, joined-size); is = joined-at r.0 r.1 ∙ ap (word_at members) r.2 ∙ p.is })
