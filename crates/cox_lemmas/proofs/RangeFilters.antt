-- The numbers 1, 2, .., n that pass a test: one number more, and how many there are.
use Rattle.std.proofs.Common.{◌≡◌, ℕ, zero, suc, ◌+◌, ◌≤◌, Bool, true, false, List, [], ◌∷◌, ◌++◌, length, filter, ap, ◌∙◌, refl, arith}
use Rattle.std.specs.List.{range_with_len}
use Rattle.std.proofs.lemmas.List.{append-nil}
use Rattle.std.proofs.lemmas.List.Elements.{filter-append}
use Rattle.std.proofs.lemmas.List.FromFn.{length-range_with_len}

-- the last of n + 1 numbers from a on is a + n
pub range-push : (a n : ℕ) → range_with_len a (suc n) ≡ range_with_len a n ++ (a + n) ∷ []
range-push a zero = ap (λ (x : ℕ). x ∷ []) (omega arith)
range-push a (suc n) = let e : a + 1 + n ≡ a + suc n = omega arith in ap (λ (xs : List ℕ). a ∷ xs) (rw e at (range-push (a + 1) n))

pub length-filter_le : (p : ℕ → Bool) (xs : List ℕ) → length (filter p xs) ≤ length xs
length-filter_le p [] = omega arith
length-filter_le p (x ∷ xs) = go (p x) refl (length-filter_le p xs)
  where
    go : (b : Bool) → p x ≡ b → length (filter p xs) ≤ length xs → length (filter p (x ∷ xs)) ≤ length (x ∷ xs)
    go true e rest = rw e (omega (arith, rest))
    go false e rest = rw e (omega (arith, rest))

filter_range-push : (p : ℕ → Bool) (n : ℕ) → filter p (range_with_len 1 (suc n)) ≡ filter p (range_with_len 1 n) ++ filter p (suc n ∷ [])
filter_range-push p n =
    let e : 1 + n ≡ suc n = omega arith in ap (filter p) (rw e at (range-push 1 n)) ∙ filter-append p (range_with_len 1 n) (suc n ∷ [])

-- n + 1, here s, passes the test
pub filter_range-yes : (p : ℕ → Bool) (n s : ℕ) → s ≡ suc n → p s ≡ true
    → filter p (range_with_len 1 s) ≡ filter p (range_with_len 1 n) ++ s ∷ []
filter_range-yes p n s e h = let q : p (suc n) ≡ true = rw e at h in rw e (filter_range-push p n ∙ rw q refl)

-- it does not
pub filter_range-no : (p : ℕ → Bool) (n s : ℕ) → s ≡ suc n → p s ≡ false → filter p (range_with_len 1 s) ≡ filter p (range_with_len 1 n)
filter_range-no p n s e h =
    let q : p (suc n) ≡ false = rw e at h in rw e (filter_range-push p n ∙ rw q (append-nil (filter p (range_with_len 1 n))))

pub length-filter_range : (p : ℕ → Bool) (n : ℕ) → length (filter p (range_with_len 1 n)) ≤ n
length-filter_range p n = omega (arith, length-filter_le p (range_with_len 1 n), length-range_with_len 1 n)
