-- The vertices on the stack: each reaches those above it, and those of one part reach each other.
use Rattle.std.proofs.Common.{◌≡◌, ℕ, zero, suc, ◌+◌, ◌-◌, ◌<◌, ◌≤◌, inl, inr, List, [], ◌∷◌, ◌++◌, Contains, ⊎_elim, subst, sym, refl}
use Rattle.std.proofs.Common.{ap, arith}
use Rattle.std.proofs.lemmas.Bool.{cases_lt}
use Rattle.std.proofs.lemmas.List.Elements.{Contains-append_left, Contains-push}
use Rattle.cox_scc.specs.Reach.{Reaches}
use Rattle.cox_scc.specs.Walk.{IsStackChain}
use Rattle.cox_scc.proofs.Reaching.{Reaches-join, Reaches-same}

module _ (IsEdge : ℕ → ℕ → Type 0) (stack : ℕ → ℕ) (size : ℕ) (parts : List ℕ) (chain : IsStackChain IsEdge stack size parts) where
  up_by : (i k : ℕ) → i + k < size → Reaches IsEdge (stack i) (stack (i + k))
  up_by i zero within = let e : i + 0 ≡ i = omega arith in Reaches-same refl (ap stack e) (Reaches.itself (stack i))
  up_by i (suc k) within =
      let e : i + suc k ≡ (i + k) + 1 = omega arith in
      Reaches-same refl (ap stack e) (Reaches-join (up_by i k (omega arith)) (chain.on (i + k) (omega arith)))

  -- a vertex reaches those above it
  pub chain_up : (i j : ℕ) → i ≤ j → j < size → Reaches IsEdge (stack i) (stack j)
  chain_up i j le within =
      let e : i + (j - i) ≡ j = omega arith in Reaches-same refl (ap stack (sym e)) (up_by i (j - i) (omega arith))

  down_by : (i k : ℕ) → ((b : ℕ) → Contains parts b → b ≤ i) → i + k < size → Reaches IsEdge (stack (i + k)) (stack i)
  down_by i zero low within = let e : i + 0 ≡ i = omega arith in Reaches-same (ap stack e) refl (Reaches.itself (stack i))
  down_by i (suc k) low within =
      let e : i + suc k ≡ (i + k) + 1 = omega arith in
      Reaches-same (ap stack e) refl (Reaches-join
      (⊎_elim (λ part. let le : (i + k) + 1 ≤ i = low ((i + k) + 1) part in absurd (omega arith)) (λ r. r) (chain.back (i + k)
      (omega arith)))
      (down_by i k low (omega arith)))

  -- where no part begins above it, a vertex is reached from those above it
  pub chain_down : (i j : ℕ) → ((b : ℕ) → Contains parts b → b ≤ i) → i ≤ j → j < size → Reaches IsEdge (stack j) (stack i)
  chain_down i j low le within =
      let e : i + (j - i) ≡ j = omega arith in Reaches-same (ap stack (sym e)) refl (down_by i (j - i) low (omega arith))

  -- a vertex that the last one reaches comes onto the stack, as a part of its own
  pub chain_enter : (v : ℕ) (taller : ℕ → ℕ) → ((p : ℕ) → p < size → taller p ≡ stack p) → taller size ≡ v
      → ((p : ℕ) → p + 1 ≡ size → Reaches IsEdge (stack p) v) → IsStackChain IsEdge taller (size + 1) (parts ++ size ∷ [])
  chain_enter v taller same top reached = record {
    on = λ p within. ⊎_elim
        (λ lt. Reaches-same (same p (omega arith)) (same (p + 1) lt) (chain.on p lt))
        (λ ge. let e : p + 1 ≡ size = omega arith in
        Reaches-same (same p (omega arith)) (subst (λ z. taller z ≡ v) (sym e) top) (reached p e))
        (cases_lt (p + 1) size);
    back = λ p within. ⊎_elim
        (λ lt. ⊎_elim (λ part. inl (Contains-append_left parts (size ∷ []) (p + 1) part))
        (λ r. inr (Reaches-same (same (p + 1) lt) (same p (omega arith)) r)) (chain.back p lt))
        (λ ge. let e : p + 1 ≡ size = omega arith in inl (subst (Contains (parts ++ size ∷ [])) (sym e) (Contains-push parts size)))
        (cases_lt (p + 1) size);
  }

  -- the vertex at `here` reaches the one at `low`: no part begins between them any more
  pub chain_join : (fewer : List ℕ) (here low : ℕ) → here < size → low < size → ((b : ℕ) → Contains parts b → b ≤ here)
      → ((b : ℕ) → Contains parts b → b ≤ low → Contains fewer b) → Reaches IsEdge (stack here) (stack low)
      → IsStackChain IsEdge stack size fewer
  chain_join fewer here low here_in low_in parts_low kept reached = record {
    on = chain.on;
    back = λ p within. ⊎_elim
        (λ part. ⊎_elim
        (λ lt. inr (Reaches-join (chain_up (p + 1) here (parts_low (p + 1) part) here_in)
        (Reaches-join reached (chain_up low p (omega arith) (omega arith)))))
        (λ ge. inl (kept (p + 1) part ge))
        (cases_lt low (p + 1)))
        (λ r. inr r)
        (chain.back p within);
  }

  -- what stands above `low` leaves the stack
  pub chain_leave : (fewer : List ℕ) (shorter : ℕ → ℕ) (low : ℕ) → low ≤ size → ((p : ℕ) → p < low → shorter p ≡ stack p)
      → ((b : ℕ) → Contains parts b → b < low → Contains fewer b) → IsStackChain IsEdge shorter low fewer
  chain_leave fewer shorter low le same kept = record {
    on = λ p within. Reaches-same (same p (omega arith)) (same (p + 1) within) (chain.on p (omega arith));
    back = λ p within. ⊎_elim (λ part. inl (kept (p + 1) part within))
        (λ r. inr (Reaches-same (same (p + 1) within) (same p (omega arith)) r)) (chain.back p (omega arith));
  }
