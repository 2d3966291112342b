-- Sums f 1 + .. + f n over the letters of the rank.
use Rattle.std.proofs.Common.{◌≡◌, ℕ, zero, suc, ◌<◌, ◌≤◌, ◌⊎◌, ℤ, pos, ◌+ℤ◌, ◌-ℤ◌, ◌*ℤ◌, refl, ap₂, sym, subst, inl, inr, ⊎_elim}
use Rattle.std.proofs.Common.{arith, eq-eqb, ne_eqb}
use Rattle.std.proofs.lemmas.Bool.{cases_lt, cases_eq}
use Rattle.std.proofs.lemmas.Int.{ints}
use Rattle.cox_base.specs.Matrix.{IsLetter}
use Rattle.cox_base.specs.Element.{sum_to}
use Rattle.cox_reflect.specs.Action.{Vector, simple_root, minus_multiple}
use Rattle.cox_lemmas.proofs.Ring.{linears, multiply_out}

pub letter_above : (n s : ℕ) → IsLetter n s → IsLetter (suc n) s
letter_above n s l = record { from_one = l.from_one; to_rank = omega (arith, l.to_rank) }

pub last_letter : (n : ℕ) → IsLetter (suc n) (suc n)
last_letter n = record { from_one = omega arith; to_rank = omega arith }

pub letter_cases : (n s : ℕ) → IsLetter n s ⊎ (IsLetter n s → ⊥)
letter_cases n s =
    ⊎_elim
    (λ (low : s < 1). inr (λ l. omega (arith, l.from_one, low)))
    (λ (from : 1 ≤ s). ⊎_elim (λ (high : n < s). inr (λ l. omega (arith, l.to_rank, high)))
    (λ (to : s ≤ n). inl (record { from_one = from; to_rank = to })) (cases_lt n s))
    (cases_lt s 1)

pub simple_root-self : (s : ℕ) → simple_root s s ≡ pos 1
unfolding simple_root
simple_root-self s = rw (eq-eqb s s refl)

pub simple_root-other : (s i : ℕ) → (i ≡ s → ⊥) → simple_root s i ≡ pos 0
unfolding simple_root
simple_root-other s i ne = rw (ne_eqb i s ne)

pub sum_to-same : (n : ℕ) (f h : ℕ → ℤ) → ((t : ℕ) → IsLetter n t → f t ≡ h t) → sum_to n f ≡ sum_to n h
unfolding sum_to
sum_to-same zero f h e = refl
sum_to-same (suc n) f h e =
    ap₂ (λ (x y : ℤ). x +ℤ y) (sum_to-same n f h (λ t l. e t (letter_above n t l))) (e (suc n) (last_letter n))

pub sum_to-zero : (n : ℕ) (f : ℕ → ℤ) → ((t : ℕ) → IsLetter n t → f t ≡ pos 0) → sum_to n f ≡ pos 0
unfolding sum_to
sum_to-zero zero f e = refl
sum_to-zero (suc n) f e =
    omega (arith, linears, sum_to-zero n f (λ t l. e t (letter_above n t l)), e (suc n) (last_letter n))

-- a sum is linear
pub sum_to-minus_multiple : (n : ℕ) (a : ℕ → ℤ) (v : Vector) (c : ℤ) (w : Vector)
    → sum_to n (λ t. a t *ℤ minus_multiple v c w t) ≡ sum_to n (λ t. a t *ℤ v t) -ℤ (c *ℤ sum_to n (λ t. a t *ℤ w t))
unfolding sum_to minus_multiple
sum_to-minus_multiple zero a v c w = simp multiply_out (omega (arith, linears))
sum_to-minus_multiple (suc n) a v c w = rw (sum_to-minus_multiple n a v c w) (simp multiply_out (omega (arith, linears)))

-- the same with the vectors on the left
pub minus_multiple-sum_to : (n : ℕ) (v : Vector) (c : ℤ) (w : Vector) (x : Vector)
    → sum_to n (λ t. minus_multiple v c w t *ℤ x t) ≡ sum_to n (λ t. v t *ℤ x t) -ℤ (c *ℤ sum_to n (λ t. w t *ℤ x t))
unfolding sum_to minus_multiple
minus_multiple-sum_to zero v c w x = simp multiply_out (omega (arith, linears))
minus_multiple-sum_to (suc n) v c w x = rw (minus_multiple-sum_to n v c w x) (simp multiply_out (omega (arith, linears)))

-- of a sum against a simple root one term is left
pub sum_to-simple_root : (n : ℕ) (a : ℕ → ℤ) (s : ℕ) → IsLetter n s → sum_to n (λ t. a t *ℤ simple_root s t) ≡ a s
unfolding sum_to
sum_to-simple_root zero a s l = absurd (omega (arith, l.from_one, l.to_rank))
sum_to-simple_root (suc n) a s l = ⊎_elim at_last (before (sum_to-simple_root n a s)) (cases_eq s (suc n))
  where
    apart : (t : ℕ) → (t ≡ s → ⊥) → a t *ℤ simple_root s t ≡ pos 0
    apart t ne = rw (simple_root-other s t ne) (omega (arith, ints))

    at_last : s ≡ suc n → sum_to n (λ t. a t *ℤ simple_root s t) +ℤ (a (suc n) *ℤ simple_root s (suc n)) ≡ a s
    at_last e =
        rw (← e, simple_root-self s) (omega (
          arith,
          ints,
          sum_to-zero n (λ t. a t *ℤ simple_root s t)
              (λ t k. apart t (λ f. omega (arith, k.to_rank))),
        ))

    before : (IsLetter n s → sum_to n (λ t. a t *ℤ simple_root s t) ≡ a s) → (s ≡ suc n → ⊥)
        → sum_to n (λ t. a t *ℤ simple_root s t) +ℤ (a (suc n) *ℤ simple_root s (suc n)) ≡ a s
    before prefix ne =
        rw (prefix (record { from_one = l.from_one; to_rank = omega (arith, l.to_rank) }), apart (suc n) (λ e. ne (sym e)))
        (omega (arith, linears))

pub sum_to-other_root : (n : ℕ) (a : ℕ → ℤ) (s : ℕ) → (IsLetter n s → ⊥)
    → sum_to n (λ t. a t *ℤ simple_root s t) ≡ pos 0
sum_to-other_root n a s foreign =
    sum_to-zero n (λ t. a t *ℤ simple_root s t)
    (λ t l. rw (simple_root-other s t (λ (e : t ≡ s). foreign (subst (IsLetter n) e l))) (omega (arith, ints)))
