-- What a list has at each place after one more item.
use Rattle.std.proofs.Common.{◌≡◌, ◌⊎◌, inl, inr, ℕ, zero, suc, Some, ◌+◌, ◌<◌, ◌≤◌, List, [], ◌∷◌, ◌++◌, length, get_or, refl, ap}
use Rattle.std.proofs.Common.{◌∙◌, ⊎_elim, length-append}
use Rattle.std.proofs.Common.{arith}
use Rattle.std.specs.List.{slice_get}
use Rattle.std.proofs.Math.ListN.{get_or-append}
use Rattle.std.proofs.Math.Seq.{get_or-append_seam}
use Rattle.std.proofs.lemmas.Bool.{cases_lt}

pub push-length : {X : Type 0} (xs : List X) (x : X) → length (xs ++ x ∷ []) ≡ length xs + 1
push-length xs x = length-append xs (x ∷ [])

pub push-old : {X : Type 0} (xs : List X) (x d : X) (k : ℕ) → k < length xs → get_or (xs ++ x ∷ []) k d ≡ get_or xs k d
push-old xs x d k l = get_or-append xs (x ∷ []) d k l

pub push-new : {X : Type 0} (xs : List X) (x d : X) (k : ℕ) → k ≡ length xs → get_or (xs ++ x ∷ []) k d ≡ x
push-new xs x d k e = ap (λ (i : ℕ). get_or (xs ++ x ∷ []) i d) e ∙ get_or-append_seam xs x [] d

pub push_cases : {X : Type 0} (xs : List X) (x : X) (k : ℕ) → k < length (xs ++ x ∷ []) → (k < length xs) ⊎ (k ≡ length xs)
push_cases xs x k l = ⊎_elim (λ less. inl less) (λ (h : length xs ≤ k). inr (omega (arith, push-length xs x))) (cases_lt k (length xs))

pub push-get_old : {X : Type 0} (xs : List X) (x : X) (k : ℕ) → k < length xs → slice_get (xs ++ x ∷ []) k ≡ slice_get xs k
push-get_old [] x k l = absurd (omega (arith, l))
push-get_old (y ∷ xs) x zero l = refl
push-get_old (y ∷ xs) x (suc k) l = push-get_old xs x k (omega (arith, l))

pub push-get_new : {X : Type 0} (xs : List X) (x : X) (k : ℕ) → k ≡ length xs → slice_get (xs ++ x ∷ []) k ≡ Some x
push-get_new [] x zero e = refl
push-get_new [] x (suc k) e = absurd (omega (arith, e))
push-get_new (y ∷ xs) x zero e = absurd (omega (arith, e))
push-get_new (y ∷ xs) x (suc k) e = push-get_new xs x k (omega (arith, e))
