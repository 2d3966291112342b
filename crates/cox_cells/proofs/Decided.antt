-- Among finitely many elements it is decided whether a chain of steps leads from one to another.
use Rattle.std.proofs.Common.{◌≡◌, ℕ, zero, suc, ◌+◌, ◌≤◌, ◌<◌, ◌⊎◌, inl, inr, Bool, true, false, ◌||◌, ◌&&◌, List, [], ◌∷◌, ℤ, pos}
use Rattle.std.proofs.Common.{negsuc, refl}
use Rattle.std.proofs.Common.{⊎_elim, nat_eq, arith}
use Rattle.std.specs.Cmp.Lexicographic.{pointwise, bytes_decides}
use Rattle.std.proofs.lemmas.Bool.{cases_lt, and_from, and_parts, or_cases, or_left, or_right}
use Rattle.cox_base.specs.declared.side.Side.{Side}
use Rattle.cox_base.specs.declared.side.Side.TheVariants as Sides
use Rattle.cox_base.specs.Matrix.{IsLetter}
use Rattle.cox_base.specs.IntegerMatrix.{IntegerMatrix}
use Rattle.cox_base.specs.Admissible.{IsAdmissible}
use Rattle.cox_base.specs.Length.{word_length}
use Rattle.cox_reflect.proofs.Members.{In, here, there}
use Rattle.cox_reflect.proofs.Roots.{left_descent-letter, descent-letter}
use Rattle.cox_base.specs.SideDescents.{times_letter, IsDescent}
use Rattle.cox_base.specs.Members.{IsElement}
use Rattle.cox_wgraph.specs.Edges.{IsEdgeValue, IsJoined}
use Rattle.cox_wgraph.proofs.EdgeValues.{edge-exists, edge-unique}
use Rattle.cox_cells.specs.declared.kind.CellKind.{CellKind}
use Rattle.cox_cells.specs.declared.kind.CellKind.TheVariants.{Left, Right, Both}
use Rattle.cox_cells.specs.Cells.{HasOwnDescent, HasOwn, IsStep, Precedes}
use Rattle.cox_cells.proofs.StepChains.{precedes-trans, chain-step}

-- ---- tests

is_left : {P Q : Type 0} → P ⊎ Q → Bool
is_left (inl p) = true
is_left (inr q) = false

left-of : {P : Type 0} (d : P ⊎ (P → ⊥)) → is_left d ≡ true → P
unfolding is_left
left-of (inl p) e = p
left-of (inr q) e = absurd (cc)

left-by : {P : Type 0} (d : P ⊎ (P → ⊥)) → P → is_left d ≡ true
unfolding is_left
left-by (inl p) x = refl
left-by (inr q) x = absurd (q x)

-- some number below n has a property, or none has
some-below : (n : ℕ) (P : ℕ → Type 0) → ((k : ℕ) → P k ⊎ (P k → ⊥)) → ((k : ℕ) × (k < n) × P k) ⊎ ((k : ℕ) → k < n → P k → ⊥)
some-below zero P d = inr (λ k l p. absurd (omega arith))
some-below (suc n) P d = ⊎_elim
    (λ (p : P n). inl (n, omega arith, p))
    (λ (none : P n → ⊥). ⊎_elim
    (λ (s : (k : ℕ) × (k < n) × P k). inl (s.0, omega (arith, s.1), s.2))
    (λ (no : (k : ℕ) → k < n → P k → ⊥). inr (λ k l p. ⊎_elim (λ (less : k < n). no k less p)
    (λ (h : n ≤ k). let e : k ≡ n = omega arith in none (rw e at p)) (cases_lt k n)))
    (some-below n P d))
    (d n)

module _ (A : IntegerMatrix) (g : IsAdmissible A) where
  joined-or_not : (x y : List ℕ) → IsJoined A x y ⊎ (IsJoined A x y → ⊥)
  joined-or_not x y = go (edge-exists A g x y).0 (edge-exists A g x y).1
    where
      go : (m : ℤ) → IsEdgeValue A x y m → IsJoined A x y ⊎ (IsJoined A x y → ⊥)
      go (pos zero) v = inr (λ j. j.1.some (edge-unique A g x y j.0 (pos zero) j.1.value v))
      go (pos (suc n)) v = inl (pos (suc n), record { value = v; some = λ e. cc })
      go (negsuc n) v = inl (negsuc n, record { value = v; some = λ e. cc })

  pub side-letter : (side : Side) (x : List ℕ) (s : ℕ) → IsDescent side A x s → IsLetter A.rank s
  side-letter Sides.Left x s d = left_descent-letter A g x s d
  side-letter Sides.Right x s d = descent-letter A g x s d

  own_descent-or_not : (side : Side) (x y : List ℕ) → HasOwnDescent side A x y ⊎ (HasOwnDescent side A x y → ⊥)
  own_descent-or_not side x y = ⊎_elim
      (λ s. inl (record { letter = s.0; descent = s.2.0; none = s.2.1 }))
      (λ none. inr (λ h. let l = side-letter side x h.letter h.descent
      in none h.letter (omega (arith, l.to_rank)) (h.descent, h.none)))
      (some-below (A.rank + 1) (λ s. IsDescent side A x s × (IsDescent side A y s → ⊥)) at)
    where
      at : (s : ℕ) → (IsDescent side A x s × (IsDescent side A y s → ⊥)) ⊎ ((IsDescent side A x s × (IsDescent side A y s → ⊥)) → ⊥)
      at s = ⊎_elim
          (λ (d : IsDescent side A x s). ⊎_elim
          (λ (e : IsDescent side A y s). inr (λ p. p.1 e))
          (λ (h : word_length A y ≤ word_length A (times_letter side s y)). inl (d, λ e. omega (arith, h, e)))
          (cases_lt (word_length A (times_letter side s y)) (word_length A y)))
          (λ (h : word_length A x ≤ word_length A (times_letter side s x)). inr (λ p. omega (arith, h, p.0)))
          (cases_lt (word_length A (times_letter side s x)) (word_length A x))

  own-or_not : (kind : CellKind) (x y : List ℕ) → HasOwn kind A x y ⊎ (HasOwn kind A x y → ⊥)
  own-or_not Left x y = own_descent-or_not Sides.Left x y
  own-or_not Right x y = own_descent-or_not Sides.Right x y
  own-or_not Both x y = ⊎_elim
      (λ (l : HasOwnDescent Sides.Left A x y). inl (inl l))
      (λ (no : HasOwnDescent Sides.Left A x y → ⊥). ⊎_elim
      (λ (r : HasOwnDescent Sides.Right A x y). inl (inr r))
      (λ (none : HasOwnDescent Sides.Right A x y → ⊥). inr (λ either. ⊎_elim no none either))
      (own_descent-or_not Sides.Right x y))
      (own_descent-or_not Sides.Left x y)

  module _ (kind : CellKind) where
    is_step : List ℕ → List ℕ → Bool
    is_step x y = is_left (joined-or_not x y) && is_left (own-or_not kind x y)

    step-of : (x y : List ℕ) → IsElement A y → is_step x y ≡ true → IsStep kind A x y
    unfolding is_step
    step-of x y e t =
        let b = and_parts (is_left (joined-or_not x y)) (is_left (own-or_not kind x y)) t
        in record { neighbour = record { element = e; joined = left-of (joined-or_not x y) b.0 }; own = left-of (own-or_not kind x y) b.1 }

    step-by : (x y : List ℕ) → IsStep kind A x y → is_step x y ≡ true
    unfolding is_step
    step-by x y s = and_from (is_left (joined-or_not x y)) (is_left (own-or_not kind x y)) (left-by (joined-or_not x y) s.neighbour.joined)
        (left-by (own-or_not kind x y) s.own)

    -- whether a chain leads from x to y by way of some of the words
    pub leads : List (List ℕ) → List ℕ → List ℕ → Bool
    leads [] x y = pointwise nat_eq x y || is_step x y
    leads (z ∷ zs) x y = leads zs x y || (leads zs x z && leads zs z y)

    leads-itself : (zs : List (List ℕ)) (x : List ℕ) → leads zs x x ≡ true
    unfolding leads
    leads-itself [] x = or_left (pointwise nat_eq x x) (is_step x x) ((bytes_decides x x).1 refl)
    leads-itself (z ∷ zs) x = or_left (leads zs x x) (leads zs x z && leads zs z x) (leads-itself zs x)

    leads-step : (zs : List (List ℕ)) (x y : List ℕ) → is_step x y ≡ true → leads zs x y ≡ true
    unfolding leads
    leads-step [] x y t = or_right (pointwise nat_eq x y) (is_step x y) t
    leads-step (z ∷ zs) x y t = or_left (leads zs x y) (leads zs x z && leads zs z y) (leads-step zs x y t)

    leads-join : (zs : List (List ℕ)) (c x y : List ℕ) → In c zs → leads zs x c ≡ true → leads zs c y ≡ true → leads zs x y ≡ true
    unfolding leads
    leads-join [] c x y i s t = elim i [ ]
    leads-join (z ∷ zs) c x y here s t =
        or_right (leads zs x y) (leads zs x z && leads zs z y) (and_from (leads zs x z) (leads zs z y)
        (⊎_elim (λ e. e) (λ b. (and_parts (leads zs x z) (leads zs z z) b).0) (or_cases (leads zs x z) (leads zs x z && leads zs z z) s))
        (⊎_elim (λ e. e) (λ b. (and_parts (leads zs z z) (leads zs z y) b).1) (or_cases (leads zs z y) (leads zs z z && leads zs z y) t)))
    leads-join (z ∷ zs) c x y (there i) s t = ⊎_elim
        (λ (direct : leads zs x c ≡ true). ⊎_elim
        (λ (on : leads zs c y ≡ true). or_left (leads zs x y) (leads zs x z && leads zs z y) (leads-join zs c x y i direct on))
        (λ (by : (leads zs c z && leads zs z y) ≡ true). let b = and_parts (leads zs c z) (leads zs z y) by
        in or_right (leads zs x y) (leads zs x z && leads zs z y)
        (and_from (leads zs x z) (leads zs z y) (leads-join zs c x z i direct b.0) b.1))
        (or_cases (leads zs c y) (leads zs c z && leads zs z y) t))
        (λ (way : (leads zs x z && leads zs z c) ≡ true). let a = and_parts (leads zs x z) (leads zs z c) way
        in or_right (leads zs x y) (leads zs x z && leads zs z y) (and_from (leads zs x z) (leads zs z y) a.0 (⊎_elim
        (λ (on : leads zs c y ≡ true). leads-join zs c z y i a.1 on)
        (λ (by : (leads zs c z && leads zs z y) ≡ true). (and_parts (leads zs c z) (leads zs z y) by).1)
        (or_cases (leads zs c y) (leads zs c z && leads zs z y) t))))
        (or_cases (leads zs x c) (leads zs x z && leads zs z c) s)

    pub chain-of : (zs : List (List ℕ)) → ((z : List ℕ) → In z zs → IsElement A z) → (x y : List ℕ) → IsElement A y → leads zs x y ≡ true
        → Precedes kind A x y
    unfolding leads
    chain-of [] all x y e t = ⊎_elim
        (λ (s : pointwise nat_eq x y ≡ true). let q : x ≡ y = (bytes_decides x y).0 s in rw q (Precedes.itself y))
        (λ (s : is_step x y ≡ true). chain-step kind A x y (step-of x y e s))
        (or_cases (pointwise nat_eq x y) (is_step x y) t)
    chain-of (z ∷ zs) all x y e t = ⊎_elim
        (λ (s : leads zs x y ≡ true). chain-of zs (λ w i. all w (there i)) x y e s)
        (λ (s : (leads zs x z && leads zs z y) ≡ true). let b = and_parts (leads zs x z) (leads zs z y) s
        in precedes-trans kind A (chain-of zs (λ w i. all w (there i)) x z (all z here) b.0)
        (chain-of zs (λ w i. all w (there i)) z y e b.1))
        (or_cases (leads zs x y) (leads zs x z && leads zs z y) t)

    pub leads-by : (zs : List (List ℕ)) → ((z : List ℕ) → IsElement A z → In z zs) → {x y : List ℕ} → Precedes kind A x y
        → leads zs x y ≡ true
    leads-by zs all (Precedes.itself x) = leads-itself zs x
    leads-by zs all (Precedes.onward x y w s c) =
        leads-join zs y x w (all y s.neighbour.element) (leads-step zs x y (step-by x y s)) (leads-by zs all c)
