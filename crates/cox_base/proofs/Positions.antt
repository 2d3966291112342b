-- The first element that passes a test, and what `find` finds.
use Rattle.std.proofs.Common.{◌≡◌, ℕ, zero, suc, ◌+◌, ◌<◌, ◌≤◌, Bool, true, false, cond, Some, None, List, [], ◌∷◌, length, get_or}
use Rattle.std.proofs.Common.{arith, refl, ap, ⊎_elim}
use Rattle.std.specs.Option.{option_map}
use Rattle.std.specs.List.{position, position_or_len, find, range_with_len}
use Rattle.std.proofs.lemmas.Bool.{cases_lt, lt-ltb, le-ltb}
use Rattle.std.proofs.lemmas.List.Sums.{position_or_len_is}
use Rattle.std.proofs.lemmas.Bool.Decides.{nat_tests}

-- the element at i is the first
pub position-Some_at : {X : Type 0} (p : X → Bool) (xs : List X) (i : ℕ) (d : X) → i < length xs
    → ((k : ℕ) → k < i → p (get_or xs k d) ≡ false) → p (get_or xs i d) ≡ true → position p xs ≡ Some i
position-Some_at p xs i d within before here =
    rw (position_or_len_is p xs i d (omega arith) before (λ _. here)) (grind (arith, nat_tests))

-- no element passes
pub position-None_all : {X : Type 0} (p : X → Bool) (xs : List X) (d : X) → ((k : ℕ) → k < length xs → p (get_or xs k d) ≡ false)
    → position p xs ≡ None
position-None_all p xs d before =
    rw (position_or_len_is p xs (length xs) d (omega arith) before (λ beyond. absurd (omega arith))) (grind (arith, nat_tests))

-- the first element passes
pub position-cons_yes : {X : Type 0} (p : X → Bool) (x : X) (xs : List X) → p x ≡ true → position p (x ∷ xs) ≡ Some 0
position-cons_yes p x xs h = rw (h, lt-ltb 0 (suc (length xs)) (omega arith))

-- it does not
pub position-cons_no : {X : Type 0} (p : X → Bool) (x : X) (xs : List X) → p x ≡ false
    → position p (x ∷ xs) ≡ option_map suc (position p xs)
position-cons_no p x xs h =
    let n = position_or_len p xs in
    ⊎_elim
    (λ (within : n < length xs).
    rw (h, lt-ltb n (length xs) within, lt-ltb (1 + n) (suc (length xs)) (omega arith)) (ap Some (omega arith)))
    (λ (beyond : length xs ≤ n). rw (h, le-ltb n (length xs) beyond, le-ltb (1 + n) (suc (length xs)) (omega arith)))
    (cases_lt n (length xs))

-- what is found passes
pub find-passes : {X : Type 0} (p : X → Bool) (xs : List X) (x : X) → find p xs ≡ Some x → p x ≡ true
find-passes p [] x e = absurd (cc)
find-passes p (y ∷ xs) x e = go (p y) refl (find-passes p xs x)
  where
    go : (b : Bool) → p y ≡ b → (find p xs ≡ Some x → p x ≡ true) → p x ≡ true
    go true q rest = let f = rw q at e in let same : y ≡ x = cc in rw (← same) q
    go false q rest = rest (rw q at e)

-- no number of a range passes
pub find-range_none : (p : ℕ → Bool) (a n : ℕ) → ((k : ℕ) → a ≤ k → k < a + n → p k ≡ false) → find p (range_with_len a n) ≡ None
find-range_none p a zero h = refl
find-range_none p a (suc n) h =
    rw (h a (omega arith) (omega arith)) (find-range_none p (a + 1) n (λ k low high. h k (omega arith) (omega arith)))

-- the first that passes
pub find-range_some : (p : ℕ → Bool) (a n i : ℕ) → a ≤ i → i < a + n → ((k : ℕ) → a ≤ k → k < i → p k ≡ false) → p i ≡ true
    → find p (range_with_len a n) ≡ Some i
find-range_some p a zero i low high before here = absurd (omega arith)
find-range_some p a (suc n) i low high before here =
    ⊎_elim
    (λ (later : a < i). rw (before a (omega arith) later)
    (find-range_some p (a + 1) n i (omega arith) (omega arith) (λ k l u. before k (omega arith) u) here))
    (λ (at : i ≤ a). let e : a ≡ i = omega arith in rw (e, here))
    (cases_lt a i)

-- what is found stands in the range
pub find-range_within : (p : ℕ → Bool) (a n i : ℕ) → find p (range_with_len a n) ≡ Some i → (a ≤ i) × (i < a + n)
find-range_within p a zero i found = absurd (cc)
find-range_within p a (suc n) i found = go (p a) (λ e. find-range_within p (a + 1) n i e) found
  where
    go : (test : Bool) → (find p (range_with_len (a + 1) n) ≡ Some i → (a + 1 ≤ i) × (i < a + 1 + n))
        → cond test (Some a) (find p (range_with_len (a + 1) n)) ≡ Some i → (a ≤ i) × (i < a + suc n)
    go true rest e = let same : a ≡ i = cc in (omega arith, omega arith)
    go false rest e = (omega (arith, (rest e).0), omega (arith, (rest e).1))
