-- What is added to the sums: the polynomial has no terms beyond the sums, and they stay small enough.
use Rattle.std.proofs.Common.{◌≡◌, ℕ, zero, suc, ◌+◌, ◌-◌, ◌^◌, ◌≤◌, List, ℤ, pos, ◌*ℤ◌, Bool, true, false, refl, ap, ◌∙◌, arith}
use Rattle.std.specs.Prelude.{unsigned_abs, nat_le, neg_ℤ, if◌then◌else◌}
use Rattle.std.proofs.lemmas.Int.{ints}
use Rattle.cox_base.specs.IntegerMatrix.{IntegerMatrix}
use Rattle.cox_base.specs.Admissible.{IsAdmissible}
use Rattle.cox_base.specs.Length.{word_length}
use Rattle.cox_base.specs.Bruhat.{IsBelow}
use Rattle.cox_lemmas.proofs.Ring.{neg_mul, times_zero}
use Rattle.cox_poly.specs.Coefficients.{Coefficients, plus, times_q}
use Rattle.cox_poly.specs.Products.{times_q_power}
use Rattle.cox_poly.specs.Multiples.{minus, scaled}
use Rattle.cox_poly.specs.Polynomial.{coefficient, HasSmallCoefficients, coefficient_after}
use Rattle.cox_poly.proofs.Norms.{absolute_after}
use Rattle.cox_poly.proofs.Coefficients.{times_q_power_at}
use Rattle.cox_hecke.specs.Row.{IsKazhdanLusztig}
use Rattle.cox_hecke.proofs.PolynomialValues.{kl_polynomial-value, kl_polynomial-low, kazhdan_lusztig-unique, kazhdan_lusztig-outside}

-- terms of 0
pub none-scaled : (c : ℤ) (n : ℕ) (f : Coefficients) → ((k : ℕ) → f k ≡ pos 0) → (k : ℕ) → scaled c (times_q_power n f) k ≡ pos 0
none-scaled c n f none k = ap (λ (a : ℤ). c *ℤ a) (go (nat_le n k)) ∙ times_zero c
  where
    go : (b : Bool) → (if b then f (k - n) else pos 0) ≡ pos 0
    go true = none (k - n)
    go false = refl

pub minus-plus : (f h : Coefficients) (c : ℤ) (n : ℕ) (k : ℕ)
    → plus f (scaled (neg_ℤ c) (times_q_power n h)) k ≡ minus f (scaled c (times_q_power n h)) k
minus-plus f h c n k = omega (arith, ints, neg_mul c (times_q_power n h k))

once : (f : Coefficients) (k : ℕ) → scaled (pos 1) (times_q_power 0 f) k ≡ f k
once f k = rw (times_q_power_at f 0 k k (omega arith)) (omega (arith, ints))

shifted : (f : Coefficients) (k : ℕ) → scaled (pos 1) (times_q_power 1 f) k ≡ times_q f k
shifted f zero = omega (arith, ints)
shifted f (suc k) = rw (times_q_power_at f 1 (suc k) k (omega arith)) (omega (arith, ints))

-- from 0: P(sx,v), then q P(x,v), then the corrections
pub three-sums : (a b c old first second third : Coefficients) → ((k : ℕ) → old k ≡ pos 0)
    → ((k : ℕ) → first k ≡ plus old (scaled (pos 1) (times_q_power 0 a)) k)
    → ((k : ℕ) → second k ≡ plus first (scaled (pos 1) (times_q_power 1 b)) k)
    → ((k : ℕ) → third k ≡ minus second c k) → (k : ℕ) → third k ≡ minus (plus a (times_q b)) c k
three-sums a b c old first second third none e f h k = omega (arith, ints, none k, e k, f k, h k, once a k, shifted b k)

-- from 0: P(x,u) alone
pub alone-is : (A : IntegerMatrix) (x u : List ℕ) (f old new : Coefficients) → ((k : ℕ) → old k ≡ pos 0)
    → ((k : ℕ) → new k ≡ plus old (scaled (pos 1) (times_q_power 0 f)) k) → IsKazhdanLusztig A x u f → IsKazhdanLusztig A x u new
alone-is A x u f old new none sum is = record {
  row = is.row;
  is = is.is;
  at = λ k. let same : new k ≡ f k = omega (arith, ints, none k, sum k, once f k) in same ∙ is.at k;
}

-- a term of 2^94 at most
pub after-small : (old p : List ℤ) (c : ℤ) (n k a : ℕ) → unsigned_abs (coefficient old k) ≤ a → HasSmallCoefficients p
    → unsigned_abs c ≤ 2 ^ 31
    → unsigned_abs (coefficient_after old p c n k) ≤ a + 2 ^ 94
after-small old p c n k a small p_small c_small =
    let bound = absolute_after (coefficient old) (coefficient p) c n k a (2 ^ 63) small p_small
    in omega (arith, bound, c_small)

module _ (A : IntegerMatrix) (g : IsAdmissible A) (x u : List ℕ) where
  -- no term has a degree of 256 or more
  pub value-low : (p : List ℤ) (n : ℕ) → word_length A u ≤ 255 → n ≤ 127 → IsKazhdanLusztig A x u (coefficient p)
      → (k : ℕ) → 256 ≤ k + n → coefficient p k ≡ pos 0
  value-low p n short shift is k l =
      ap (λ (f : Coefficients). f k) (kl_polynomial-value A g x u (coefficient p) is)
      ∙ kl_polynomial-low A g x u k (omega (arith, l, shift)) (omega (arith, l, shift, short))

  -- another function that is P(x,u)
  pub sum-same : (old p : List ℤ) (c : ℤ) (n : ℕ) (f : Coefficients) → IsKazhdanLusztig A x u (coefficient p) → IsKazhdanLusztig A x u f
      → (k : ℕ) → coefficient_after old p c n k ≡ plus (coefficient old) (scaled c (times_q_power n f)) k
  sum-same old p c n f is other k =
      ap (λ (h : Coefficients). plus (coefficient old) (scaled c (times_q_power n h)) k)
      (λ i j. kazhdan_lusztig-unique A g x u (coefficient p) f is other j i)

  -- where x ≤ u fails nothing is added
  pub sum-none : (old : List ℤ) (c : ℤ) (n : ℕ) (f : Coefficients) → (IsBelow A x u → ⊥) → IsKazhdanLusztig A x u f
      → (k : ℕ) → coefficient old k ≡ plus (coefficient old) (scaled c (times_q_power n f)) k
  sum-none old c n f none is k = omega (arith, ints, none-scaled c n f (kazhdan_lusztig-outside A g x u f none is) k)
