-- The least of the needed rows that were not seen is one of them, and each other one is greater; if there is none, all were seen.
use Rattle.std.proofs.Common.{◌≡◌, ℕ, zero, suc, ◌<◌, ◌≤◌, Bool, true, false, not, cond, ◌⊎◌, ⊎_elim, inl, inr, List, [], ◌∷◌}
use Rattle.std.proofs.Common.{length, get_or, Contains, filter, Option, Some, None, is_none, refl, sym, ap, subst, ◌∙◌, arith}
use Rattle.std.proofs.lemmas.Bool.{cases_lt, false≢true, not-true, not_from_false}
use Rattle.cox_fill_core.specs.Fill.{least, least_with}

-- where nothing is missing, the first of the needed rows passes, and nothing of the others is missing
first_passes : (b : Bool) (x : ℕ) (xs : List ℕ) → is_none (least (cond (not b) (x ∷ xs) xs)) ≡ true
    → (b ≡ true) × (is_none (least xs) ≡ true)
first_passes true x xs h = (refl, h)
first_passes false x xs h = cc

passes_at : (p : ℕ → Bool) (xs : List ℕ) (k d : ℕ) → is_none (least (filter (λ j. not (p j)) xs)) ≡ true → k < length xs
    → p (get_or xs k d) ≡ true
passes_at p [] k d h lt = absurd (omega arith)
passes_at p (x ∷ xs) zero d h lt = (first_passes (p x) x (filter (λ j. not (p j)) xs) h).0
passes_at p (x ∷ xs) (suc k) d h lt = passes_at p xs k d (first_passes (p x) x (filter (λ j. not (p j)) xs) h).1 (omega arith)

-- where nothing is missing, each needed row passes
pub none_missing : (p : ℕ → Bool) (xs : List ℕ) (j : ℕ) → is_none (least (filter (λ j. not (p j)) xs)) ≡ true → Contains xs j → p j ≡ true
none_missing p xs j h c = subst (λ i. p i ≡ true) c.2 (passes_at p xs c.0 j h c.1)

-- ---- the least row that is missing

abbrev In : ℕ → List ℕ → Type 0
In j [] = ⊥
In j (x ∷ xs) = (x ≡ j) ⊎ In j xs

In-contains : (xs : List ℕ) (j : ℕ) → In j xs → Contains xs j
In-contains [] j h = absurd h
In-contains (x ∷ xs) j h =
    ⊎_elim (λ e. (zero, omega arith, e)) (λ k. let c = In-contains xs j k in (suc c.0, (let l = c.1 in omega arith), c.2)) h

In-from : (xs : List ℕ) (k j : ℕ) → k < length xs → get_or xs k j ≡ j → In j xs
In-from [] k j lt e = absurd (omega arith)
In-from (x ∷ xs) zero j lt e = inl e
In-from (x ∷ xs) (suc k) j lt e = inr (In-from xs k j (omega arith) e)

-- the row j is among these, passes, and is the least such row
record IsLeastPass (p : ℕ → Bool) (xs : List ℕ) (j : ℕ) : Type 0 where
  pub among : In j xs
  pub passes : p j ≡ true
  pub least : (k : ℕ) → In k xs → p k ≡ true → j ≤ k

none_pass : (p : ℕ → Bool) (xs : List ℕ) (k : ℕ) → least (filter p xs) ≡ None → In k xs → p k ≡ true → ⊥
none_pass p [] k n h t = h
none_pass p (x ∷ xs) k n h t = at (λ q later. none_pass p xs k q later t) (p x) refl n
  where
    at : (least (filter p xs) ≡ None → In k xs → ⊥) → (b : Bool) → p x ≡ b → least (cond b (x ∷ filter p xs) (filter p xs)) ≡ None → ⊥
    at others true e q = cc
    at others false e q = ⊎_elim (λ same. false≢true (sym e ∙ ap p same ∙ t)) (λ later. others q later) h

least_pass : (p : ℕ → Bool) (xs : List ℕ) (j : ℕ) → least (filter p xs) ≡ Some j → IsLeastPass p xs j
least_pass p [] j n = cc
least_pass p (x ∷ xs) j n = at (λ y. least_pass p xs y) (p x) refl n
  where
    first : ((y : ℕ) → least (filter p xs) ≡ Some y → IsLeastPass p xs y) → (o : Option ℕ) → least (filter p xs) ≡ o → p x ≡ true
        → least_with x o ≡ j → IsLeastPass p (x ∷ xs) j
    first others None e t is = record {
      among = inl is;
      passes = ap p (sym is) ∙ t;
      least = λ k h q. ⊎_elim (λ same. omega arith) (λ later. absurd (none_pass p xs k e later q)) h;
    }
    first others (Some y) e t is =
        let l = others y e in
        ⊎_elim
        (λ below. record {
          among = inl (omega arith);
          passes = ap p (let same : j ≡ x = omega arith in same) ∙ t;
          least = λ k h q. ⊎_elim (λ same. omega arith) (λ later. let m = l.least k later q in omega arith) h;
        })
        (λ above. record {
          among = inr (subst (λ z. In z xs) (let same : y ≡ j = omega arith in same) l.among);
          passes = ap p (let same : j ≡ y = omega arith in same) ∙ l.passes;
          least = λ k h q. ⊎_elim (λ same. omega arith) (λ later. let m = l.least k later q in omega arith) h;
        })
        (cases_lt x y)

    at : ((y : ℕ) → least (filter p xs) ≡ Some y → IsLeastPass p xs y) → (b : Bool) → p x ≡ b
        → least (cond b (x ∷ filter p xs) (filter p xs)) ≡ Some j → IsLeastPass p (x ∷ xs) j
    at others true e q = first others (least (filter p xs)) refl e cc
    at others false e q =
        let l = others j q in record {
          among = inr l.among;
          passes = l.passes;
          least = λ k h t. ⊎_elim (λ same. absurd (false≢true (sym e ∙ ap p same ∙ t))) (λ later. l.least k later t) h;
        }

-- the least of the needed rows that do not pass
pub least_missing : (p : ℕ → Bool) (xs : List ℕ) (j : ℕ) → least (filter (λ k. not (p k)) xs) ≡ Some j
    → Contains xs j × (p j ≡ false) × ((k : ℕ) → Contains xs k → p k ≡ false → j ≤ k)
least_missing p xs j n =
    let l = least_pass (λ k. not (p k)) xs j n in (
      In-contains xs j l.among,
      not-true (p j) l.passes,
      (λ k c u. l.least k (In-from xs c.0 k c.1 c.2) (not_from_false (p k) u)),
    )
