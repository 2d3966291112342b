-- Products that are taken off sums with a sign, term by term.
use Rattle.std.proofs.Common.{◌≡◌, ◌⊎◌, inl, inr, ℕ, zero, suc, ◌+◌, ◌^◌, ◌%◌, ◌<◌, ◌≤◌, List, ℤ, pos, ◌+ℤ◌, refl, ap}
use Rattle.std.proofs.Common.{sym, ◌∙◌, ⊎_elim, arith}
use Rattle.std.specs.Prelude.{unsigned_abs, neg_ℤ}
use Rattle.std.proofs.lemmas.Bool.{cases_lt}
use Rattle.std.proofs.lemmas.Int.{ints}
use Rattle.cox_lemmas.proofs.Ring.{neg_mul}
use Rattle.cox_poly.specs.Coefficients.{Coefficients}
use Rattle.cox_poly.specs.Products.{times_q_power, product}
use Rattle.cox_poly.specs.Multiples.{minus, scaled}
use Rattle.cox_poly.specs.Polynomial.{coefficient, coefficient_after, HasDegreeBelow, IsDegree}
use Rattle.cox_poly.specs.Limit.{AllWithin}
use Rattle.cox_poly.proofs.Norms.{absolute_after}
use Rattle.cox_poly.proofs.Products.{terms_below, terms_below-product, terms_below-all, zero-product}
use Rattle.cox_rpoly.specs.Sign.{times_sign}
use Rattle.cox_inverse.specs.declared.fault.TheConstants.{MAX_COEFFICIENT}

-- ---- signs

-- what a sign does, by its parity
pub times_sign-parity : (d : ℕ) (f : Coefficients) (k : ℕ) → ((d % 2 ≡ 0) × (times_sign d f k ≡ f k)) ⊎ ((d % 2 ≡ 1) ×
    (times_sign d f k ≡ neg_ℤ (f k)))
times_sign-parity zero f k = inl (refl, refl)
times_sign-parity (suc d) f k = elim (times_sign-parity d f k) [
  | inl even ↦ inr (omega (arith, even.0), omega (arith, ints, even.1))
  | inr odd ↦ inl (omega (arith, odd.0), omega (arith, ints, odd.1))
]

times_sign-sum : (d : ℕ) (f h s : Coefficients) → ((k : ℕ) → s k ≡ f k +ℤ h k) → (k : ℕ)
    → times_sign d s k ≡ times_sign d f k +ℤ times_sign d h k
times_sign-sum zero f h s e k = e k
times_sign-sum (suc d) f h s e k = omega (arith, ints, times_sign-sum d f h s e k)

times_sign-zero : (d : ℕ) (f : Coefficients) → ((k : ℕ) → f k ≡ pos 0) → (k : ℕ) → times_sign d f k ≡ pos 0
times_sign-zero zero f e k = e k
times_sign-zero (suc d) f e k = omega (arith, ints, times_sign-zero d f e k)

-- the factor with its sign
pub factor-even : (c : ℤ) (d : ℕ) → d % 2 ≡ 0 → (f : Coefficients) (k : ℕ) → scaled (neg_ℤ c) f k ≡ neg_ℤ (times_sign d (scaled c f) k)
factor-even c d even f k = elim (times_sign-parity d (scaled c f) k) [
  | inl same ↦ neg_mul c (f k) ∙ ap neg_ℤ (sym same.1)
  | inr odd ↦ absurd (omega (arith, even, odd.0))
]

pub factor-odd : (c : ℤ) (d : ℕ) → (d % 2 ≡ 0 → ⊥) → (f : Coefficients) (k : ℕ) → scaled c f k ≡ neg_ℤ (times_sign d (scaled c f) k)
factor-odd c d odd f k = elim (times_sign-parity d (scaled c f) k) [
  | inl even ↦ absurd (odd even.0)
  | inr other ↦ omega (arith, ints, other.1)
]

-- ---- products

module _ (p r sums : List ℤ) (d : ℕ) where
  -- the terms below q^n of p, times r, are taken off
  abbrev pub AreTakenOff : ℕ → List ℤ → Type 0
  AreTakenOff n new = (j : ℕ) → coefficient new j ≡ minus (coefficient sums) (times_sign d (product (terms_below n (coefficient p))
      (coefficient r))) j

  pub taken_off-none : AreTakenOff 0 sums
  taken_off-none j =
      let none = times_sign-zero d (product (terms_below 0 (coefficient p)) (coefficient r)) (zero-product (coefficient r)) j
      in omega (arith, ints, none)

  pub taken_off-more : (n : ℕ) (b c : ℤ) (old new : List ℤ) → b ≡ coefficient p n
      → ((f : Coefficients) (k : ℕ) → scaled c f k ≡ neg_ℤ (times_sign d (scaled b f) k))
      → ((k : ℕ) → coefficient new k ≡ coefficient_after old r c n k) → AreTakenOff n old → AreTakenOff (suc n) new
  taken_off-more n b c old new e signed after before j =
      let more = times_sign-sum d (product (terms_below n (coefficient p)) (coefficient r))
      (scaled (coefficient p n) (times_q_power n (coefficient r))) (product (terms_below (suc n) (coefficient p)) (coefficient r))
      (λ k. terms_below-product (coefficient p) (coefficient r) n k) j
      in let term : scaled c (times_q_power n (coefficient r)) j
      ≡ neg_ℤ (times_sign d (scaled (coefficient p n) (times_q_power n (coefficient r))) j)
      = rw e at (signed (times_q_power n (coefficient r)) j)
      in omega (arith, ints, after j, before j, term, more)

  pub taken_off-all : (n : ℕ) (new : List ℤ) → HasDegreeBelow p n → AreTakenOff n new
      → (j : ℕ) → coefficient new j ≡ minus (coefficient sums) (times_sign d (product (coefficient p) (coefficient r))) j
  taken_off-all n new low before j =
      before j ∙ ap (λ (f : Coefficients). minus (coefficient sums) (times_sign d (product f (coefficient r))) j)
      (λ i k. terms_below-all (coefficient p) n low k i)

-- a degree is below each bound of the degrees
pub degree-less : (p : List ℤ) (d n : ℕ) → IsDegree p d → HasDegreeBelow p n → d < n
degree-less p d n is low = ⊎_elim (λ (l : d < n). l) (λ (m : n ≤ d). absurd (is.leading (low d m))) (cases_lt d n)

-- one term of 2^94 at most
pub term-small : (old r : List ℤ) (c : ℤ) (n k : ℕ) → unsigned_abs c ≤ 140737488355327 → AllWithin MAX_COEFFICIENT r
    → unsigned_abs (coefficient_after old r c n k) ≤ unsigned_abs (coefficient old k) + 2 ^ 94
term-small old r c n k c_small r_small =
    let bound = absolute_after (coefficient old) (coefficient r) c n k (unsigned_abs (coefficient old k)) (2 ^ 47) (omega arith)
    (λ j. let h = r_small j in omega (arith, ints, h))
    in omega (arith, bound, c_small)
