-- What is reached along edges.
use Rattle.std.proofs.Common.{◌≡◌, ℕ, subst, sym}
use Rattle.cox_scc.specs.Reach.{Reaches}

pub Reaches-join : {IsEdge : ℕ → ℕ → Type 0} {a b c : ℕ} → Reaches IsEdge a b → Reaches IsEdge b c → Reaches IsEdge a c
Reaches-join (Reaches.itself a) r = r
Reaches-join (Reaches.onward a b c e r) s = Reaches.onward a b _ e (Reaches-join r s)

pub Reaches-step : {IsEdge : ℕ → ℕ → Type 0} {a b : ℕ} → IsEdge a b → Reaches IsEdge a b
Reaches-step e = Reaches.onward _ _ _ e (Reaches.itself _)

-- where edges of one kind are edges of another, at the vertices that they lead to, what is reached is reached
pub Reaches-map : {IsEdge IsOther : ℕ → ℕ → Type 0} {a b : ℕ} (P : ℕ → Type 0) → ((x y : ℕ) → P x → IsEdge x y → P y × IsOther x y)
    → P a → Reaches IsEdge a b → Reaches IsOther a b
Reaches-map P edge p (Reaches.itself a) = Reaches.itself a
Reaches-map P edge p (Reaches.onward a b c e r) =
    let step = edge a b p e in Reaches.onward a b c step.1 (Reaches-map P edge step.0 r)

-- what is kept along edges is kept wherever they lead
pub Reaches-keeps : {IsEdge : ℕ → ℕ → Type 0} {a b : ℕ} (P : ℕ → Type 0) → ((x y : ℕ) → P x → IsEdge x y → P y) → Reaches IsEdge a b → P a
    → P b
Reaches-keeps P keep (Reaches.itself a) p = p
Reaches-keeps P keep (Reaches.onward a b c e r) p = Reaches-keeps P keep r (keep a b p e)

-- between equal vertices
pub Reaches-same : {IsEdge : ℕ → ℕ → Type 0} {a b p q : ℕ} → a ≡ p → b ≡ q → Reaches IsEdge p q → Reaches IsEdge a b
Reaches-same {IsEdge} {a} {b} {p} {q} e f r = subst (λ z. Reaches IsEdge z b) (sym e) (subst (λ z. Reaches IsEdge p z) (sym f) r)
