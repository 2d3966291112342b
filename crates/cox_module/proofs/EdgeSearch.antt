-- A binary search among the edges of a member, by the number of their other end.
use Rattle.std.proofs.Common.{◌≡◌, ℕ, ◌<◌, ◌≤◌, List, length, Ok, Err, ⊎_elim, ℤ, pos, sym, ap, arith}
use Rattle.std.specs.List.Sorted.{IsSearchInRange, IsBinarySearchResult, IsNonDecreasingBy}
use Rattle.std.specs.Ordering.{nat_cmp, ordering_index}
use Rattle.std.proofs.lemmas.Cmp.{ranked}
use Rattle.std.proofs.lemmas.Bool.{cases_lt}
use Rattle.std.proofs.lemmas.List.Sorted.{IsNonDecreasingBy-from_default}
use Rattle.std.proofs.lemmas.Bool.Decides.{nat_tests}
use Rattle.cox_base.specs.IntegerMatrix.{IntegerMatrix}
use Rattle.cox_context.specs.Numbers.{word_at}
use Rattle.cox_wgraph.specs.declared.edge.Edge.{Edge}
use Rattle.cox_wgraph.specs.Edges.{IsEdge}
use Rattle.cox_wgraph.specs.NumberedEdges.{edge_at, AreEdges}

abbrev no_edge : Edge
no_edge = record { to = 0; value = pos 0 }

module _ (A : IntegerMatrix) (members : List (List ℕ)) (i : ℕ) (edges : List Edge) (are : AreEdges A members i edges)
    (j : ℕ) (inside : j < length members) where
  compared_rise : IsNonDecreasingBy (λ (e : Edge). ordering_index (nat_cmp e.to j)) edges
  compared_rise = IsNonDecreasingBy-from_default (λ (e : Edge). ordering_index (nat_cmp e.to j)) edges no_edge (λ a b le within.
      let rise : (edge_at edges a).to ≤ (edge_at edges b).to
      = grind (arith, are.rising a b, λ (same : a ≡ b). ap (λ (k : ℕ). (edge_at edges k).to) same)
      in grind (arith, nat_tests))

  pub found-edge : (k : ℕ) → IsSearchInRange (Ok k) (length edges) → IsBinarySearchResult (λ (e : Edge). nat_cmp e.to j) edges (Ok k)
      → IsEdge A (word_at members i) (word_at members j) (edge_at edges k).value
  found-edge k within equal =
      let there : (edge_at edges k).to ≡ j = ranked _ j _ (sym (equal no_edge))
      in rw there at (are.edge k within)

  pub no-edge : (k : ℕ) → IsSearchInRange (Err k) (length edges) → IsBinarySearchResult (λ (e : Edge). nat_cmp e.to j) edges (Err k)
      → (m : ℤ) → IsEdge A (word_at members i) (word_at members j) m → ⊥
  no-edge k within parted m is =
      let place = are.whole j m inside is
      in ⊎_elim
      (λ (less : place.0 < k).
      let below : (edge_at edges place.0).to < j = ranked _ j _ (sym ((parted compared_rise).0 place.0 no_edge (omega arith) less))
      in omega (arith, below, place.2))
      (λ (more : k ≤ place.0).
      let above : j < (edge_at edges place.0).to = ranked _ j _ (sym ((parted compared_rise).1 place.0 no_edge more place.1))
      in omega (arith, above, place.2))
      (cases_lt place.0 k)
