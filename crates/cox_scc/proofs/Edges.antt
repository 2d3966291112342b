-- Lists of edges with one edge more.
use Rattle.std.proofs.Common.{◌≡◌, ℕ, ◌<◌, List, [], ◌∷◌, ◌++◌, Bool, true, false, cond, Contains, ⊎_elim, take, subst, sym, ◌∙◌, ap, arith}
use Rattle.std.proofs.lemmas.List.{get_or-take, length-take}
use Rattle.std.proofs.lemmas.List.Elements.{Contains-push_cases}

-- the ends of all edges are among n vertices, also after an edge was added or was not
pub within-push : (edges longer : List (ℕ × ℕ)) (added : Bool) (a b n : ℕ) → longer ≡ cond added (edges ++ (a, b) ∷ []) edges → a < n
    → b < n
    → ((p q : ℕ) → Contains edges (p, q) → (p < n) × (q < n)) → (p q : ℕ) → Contains longer (p, q) → (p < n) × (q < n)
within-push edges longer false a b n is from to within p q is_edge = within p q (subst (λ z. Contains z (p, q)) is is_edge)
within-push edges longer true a b n is from to within p q is_edge =
    ⊎_elim (λ old. within p q old) (λ e. (subst (λ z. z < n) (ap (λ w. w.0) e) from, subst (λ z. z < n) (ap (λ w. w.1) e) to))
    (Contains-push_cases edges (a, b) (p, q) (subst (λ z. Contains z (p, q)) is is_edge))

-- and also where the last ones were cut off
pub within-take : (edges fewer : List (ℕ × ℕ)) (count n : ℕ) → fewer ≡ take count edges
    → ((p q : ℕ) → Contains edges (p, q) → (p < n) × (q < n)) → (p q : ℕ) → Contains fewer (p, q) → (p < n) × (q < n)
within-take edges fewer count n is within p q is_edge =
    let (k, lt, found) = subst (λ z. Contains z (p, q)) is is_edge in
    let before : k < count = omega (arith, length-take count edges, lt) in
    within p q (k, omega (arith, length-take count edges, lt), sym (get_or-take count edges k (p, q) before) ∙ found)
