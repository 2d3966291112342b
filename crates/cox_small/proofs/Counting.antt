-- There are not both more than max and at most max small roots: n + 1 numbers below n are not all different.
use Rattle.std.proofs.Common.{◌≡◌, ℕ, zero, suc, ◌≤◌, ◌<◌, ◌⊎◌, refl, ap, sym, ◌∙◌, inl, inr, ⊎_elim, arith}
use Rattle.std.proofs.lemmas.Bool.{cases_eq, cases_lt}
use Rattle.cox_base.specs.IntegerMatrix.{IntegerMatrix}
use Rattle.cox_small.specs.SmallRoots.{HasMoreSmallRoots}
use Rattle.cox_small.specs.RootCounts.{HasFewSmallRoots}

-- f is v at one of the numbers 0 to n, or at none
search_value : (n : ℕ) (f : ℕ → ℕ) (v : ℕ) → ((i : ℕ) × (i ≤ n) × (f i ≡ v)) ⊎ ((i : ℕ) → i ≤ n → f i ≡ v → ⊥)
search_value zero f v =
    ⊎_elim (λ e. inl (0, omega arith, e)) (λ ne. inr (λ i l e. let z : i ≡ 0 = omega (arith, l) in ne (rw z at e))) (cases_eq (f 0) v)
search_value (suc n) f v =
    ⊎_elim (λ r. inl (r.0, omega (arith, r.1), r.2))
    (λ none. ⊎_elim (λ e. inl (suc n, omega arith, e)) (λ ne. inr (never none ne)) (cases_eq (f (suc n)) v)) (search_value n f v)
  where
    never : ((i : ℕ) → i ≤ n → f i ≡ v → ⊥) → (f (suc n) ≡ v → ⊥) → (i : ℕ) → i ≤ suc n → f i ≡ v → ⊥
    never none ne i l e =
        ⊎_elim (λ (z : i ≡ suc n). ne (rw z at e)) (λ other. none i (omega (arith, l, other)) e) (cases_eq i (suc n))

-- f with v in place of n
replaced : ℕ → ℕ → (ℕ → ℕ) → ℕ → ℕ
replaced n v f i = ⊎_elim (λ _. v) (λ _. f i) (cases_eq (f i) n)

replaced-cases : (n v : ℕ) (f : ℕ → ℕ) (i : ℕ) → ((f i ≡ n) × (replaced n v f i ≡ v)) ⊎ ((f i ≡ n → ⊥) × (replaced n v f i ≡ f i))
unfolding replaced
replaced-cases n v f i = go (cases_eq (f i) n)
  where
    go : (c : (f i ≡ n) ⊎ (f i ≡ n → ⊥))
        → ((f i ≡ n) × (⊎_elim (λ _. v) (λ _. f i) c ≡ v)) ⊎ ((f i ≡ n → ⊥) × (⊎_elim (λ _. v) (λ _. f i) c ≡ f i))
    go (inl e) = inl (e, refl)
    go (inr ne) = inr (ne, refl)

-- the n + 1 numbers f 0 to f n are not all different, if they are below n
pigeons : (n : ℕ) (f : ℕ → ℕ) → ((i : ℕ) → i ≤ n → f i < n) → ((i j : ℕ) → i < j → j ≤ n → f i ≡ f j → ⊥) → ⊥
pigeons zero f below different = omega (arith, below 0 (omega arith))
pigeons (suc n) f below different =
    ⊎_elim (λ r. different r.0 (suc n) (omega (arith, r.1)) (omega arith) r.2) (none (pigeons n (replaced n (f (suc n)) f)))
    (search_value n f (f (suc n)))
  where
    Fewer : ℕ → (ℕ → ℕ) → Type 0
    Fewer m h = ((i : ℕ) → i ≤ m → h i < m) → ((i j : ℕ) → i < j → j ≤ m → h i ≡ h j → ⊥) → ⊥

    none : Fewer n (replaced n (f (suc n)) f) → ((i : ℕ) → i ≤ n → f i ≡ f (suc n) → ⊥) → ⊥
    none rest other = rest inside apart
      where
        inside : (i : ℕ) → i ≤ n → replaced n (f (suc n)) f i < n
        inside i l =
            ⊎_elim (λ h. let ne = other i l
            in ⊎_elim (λ (e : f (suc n) ≡ n). absurd (ne (h.0 ∙ sym e))) (λ o. omega (arith, h.1, o, below (suc n) (omega arith)))
            (cases_eq (f (suc n)) n))
            (λ h. let b = below i (omega (arith, l))
            in ⊎_elim (λ (e : f i ≡ n). absurd (h.0 e)) (λ o. omega (arith, h.1, o, b)) (cases_eq (f i) n))
            (replaced-cases n (f (suc n)) f i)

        apart : (i j : ℕ) → i < j → j ≤ n → replaced n (f (suc n)) f i ≡ replaced n (f (suc n)) f j → ⊥
        apart i j l k e =
            ⊎_elim
            (λ h. ⊎_elim (λ m. different i j l (omega (arith, k)) (h.0 ∙ sym m.0)) (λ m. other j k (sym m.1 ∙ sym e ∙ h.1))
            (replaced-cases n (f (suc n)) f j))
            (λ h. ⊎_elim (λ m. other i (omega (arith, l, k)) (sym h.1 ∙ e ∙ m.1))
            (λ m. different i j l (omega (arith, k)) (sym h.1 ∙ e ∙ m.1)) (replaced-cases n (f (suc n)) f j))
            (replaced-cases n (f (suc n)) f i)

pub not_both : (A : IntegerMatrix) (max : ℕ) → HasFewSmallRoots A max → HasMoreSmallRoots A max → ⊥
not_both A max few many = pigeons max place (λ i l. (place-is i l).0) (λ i j l k e.
    many.different i j l k (sym (place-is i (omega (arith, l, k))).1 ∙ ap few.root e ∙ (place-is j k).1))
  where
    -- where the small root i of the many stands among the few
    place_by : (i : ℕ) → (max < i) ⊎ (i ≤ max) → ℕ
    place_by i (inl above) = 0
    place_by i (inr l) = (few.all (many.small i l)).0

    place : ℕ → ℕ
    place i = place_by i (cases_lt max i)

    place_by-root : (i : ℕ) → i ≤ max → (c : (max < i) ⊎ (i ≤ max)) → (place_by i c < max) × (few.root (place_by i c) ≡ many.root i)
    place_by-root i l (inl above) = absurd (omega (arith, l, above))
    place_by-root i l (inr k) = let r = few.all (many.small i k) in (r.1, r.2)

    place-is : (i : ℕ) → i ≤ max → (place i < max) × (few.root (place i) ≡ many.root i)
    place-is i l = place_by-root i l (cases_lt max i)
