-- Numbers that rise: what a binary search says of them.
use Rattle.std.proofs.Common.{◌≡◌, ℕ, zero, suc, ◌+◌, ◌<◌, ◌≤◌, List, [], ◌∷◌, ◌++◌, length, refl, ◌∙◌, Result, Ok, Err, ap, ⊎_elim, arith}
use Rattle.std.specs.Prelude.{MatchResult}
use Rattle.std.specs.Ordering.{nat_cmp}
use Rattle.std.specs.List.Sorted.{IsBinarySearchResult}
use Rattle.std.proofs.lemmas.Bool.{cases_lt}
use Rattle.std.proofs.lemmas.List.Sorted.{searched}
use Rattle.cox_lemmas.proofs.PushedItems.{push-length, push-old, push-new, push_cases}
use Rattle.cox_row.specs.Rising.{number_at, AreRising, AreWithin}

pub rising-most : (numbers : List ℕ) → AreRising numbers → (i j : ℕ) → i ≤ j → j < length numbers
    → number_at numbers i ≤ number_at numbers j
rising-most numbers rising i j l m =
    ⊎_elim (λ (less : i < j). omega (arith, rising i j less m))
    (λ (h : j ≤ i). let e : i ≡ j = omega arith in omega (arith, ap (λ k. number_at numbers k) e)) (cases_lt i j)

-- what binary_search says of numbers that rise
pub found-rising : (numbers : List ℕ) (x : ℕ) (found : Result ℕ ℕ) → AreRising numbers
    → IsBinarySearchResult (λ y. nat_cmp y x) numbers found
    → MatchResult found (λ i. (i < length numbers) × (number_at numbers i ≡ x)) (λ _. (k : ℕ) → k < length numbers
    → number_at numbers k ≡ x → ⊥)
found-rising numbers x (Ok i) rising is = searched numbers x (Ok i) is (rising-most numbers rising)
found-rising numbers x (Err i) rising is = λ k l e.
    let r = searched numbers x (Err i) is (rising-most numbers rising)
    in ⊎_elim (λ (less : k < i). let h = r.1 k less in omega (arith, h, e)) (λ (h : i ≤ k). let m
    = r.2 k h l in omega (arith, m, e)) (cases_lt k i)

-- numbers that rise and are below n are no more than n
least-rising : (f : ℕ → ℕ) (size : ℕ) → ((j k : ℕ) → j < k → k < size → f j < f k) → (k : ℕ) → k < size → k ≤ f k
least-rising f size rising zero l = omega arith
least-rising f size rising (suc k) l =
    let least = least-rising f size rising k (omega arith) in let more = rising k (suc k) (omega arith) l in omega (arith, least, more)

pub few-rising : (f : ℕ → ℕ) (n size : ℕ) → ((j k : ℕ) → j < k → k < size → f j < f k) → ((k : ℕ) → k < size → f k < n) → size ≤ n
few-rising f n zero rising within = omega arith
few-rising f n (suc k) rising within =
    let least = least-rising f (suc k) rising k (omega arith) in let less = within k (omega arith) in omega (arith, least, less)

pub rising-few : (n : ℕ) (numbers : List ℕ) → AreRising numbers → AreWithin n numbers → length numbers ≤ n
rising-few n numbers rising within = few-rising (number_at numbers) n (length numbers) rising within

-- ---- one number more

-- what holds of each number
pub each-push : (P : ℕ → Type 0) (numbers : List ℕ) (x : ℕ) → ((k : ℕ) → k < length numbers → P (number_at numbers k)) → P x
    → (k : ℕ) → k < length (numbers ++ x ∷ []) → P (number_at (numbers ++ x ∷ []) k)
each-push P numbers x each last k l = ⊎_elim
    (λ (old : k < length numbers). rw (push-old numbers x 0 k old) (each k old))
    (λ (new : k ≡ length numbers). rw (push-new numbers x 0 k new) last)
    (push_cases numbers x k l)

-- the numbers rise where the new one is greater than each
pub rising-push : (numbers : List ℕ) (x : ℕ) → AreRising numbers → AreWithin x numbers → AreRising (numbers ++ x ∷ [])
rising-push numbers x rising within j k less l = ⊎_elim
    (λ (old : k < length numbers). rw (push-old numbers x 0 j (omega (arith, less, old)), push-old numbers x 0 k old) (rising j k less old))
    (λ (new : k ≡ length numbers).
    rw (push-old numbers x 0 j (omega (arith, less, new)), push-new numbers x 0 k new) (within j (omega (arith, less, new))))
    (push_cases numbers x k l)

pub within-push : (numbers : List ℕ) (x : ℕ) → AreWithin x numbers → AreWithin (x + 1) (numbers ++ x ∷ [])
within-push numbers x within =
    each-push (λ y. y < x + 1) numbers x (λ k l. let less = within k l in omega (arith, less)) (omega arith)

-- where a number up to the new one is found, if each lesser one is
pub found-push : (numbers : List ℕ) (x y : ℕ) → (y < x → (k : ℕ) × (k < length numbers) × (number_at numbers k ≡ y)) → y < x + 1
    → (k : ℕ) × (k < length (numbers ++ x ∷ [])) × (number_at (numbers ++ x ∷ []) k ≡ y)
found-push numbers x y found l = ⊎_elim
    (λ (less : y < x). let k = found less in (k.0, omega (arith, k.1, push-length numbers x), push-old numbers x 0 k.0 k.1 ∙ k.2))
    (λ (more : x ≤ y). (
      length numbers,
      omega (arith, push-length numbers x),
      push-new numbers x 0 (length numbers) refl ∙ omega (arith, l, more),
    ))
    (cases_lt y x)
