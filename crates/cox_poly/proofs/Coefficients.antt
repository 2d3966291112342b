-- Polynomials as coefficient functions: multiples by powers of q, and polynomials turned round.
use Rattle.std.proofs.Common.{◌≡◌, ℕ, zero, suc, ◌+◌, ◌-◌, ◌≤◌, ◌<◌, Bool, true, false, if◌then◌else◌}
use Rattle.std.proofs.Common.{ℤ, pos, ◌+ℤ◌, ◌-ℤ◌, ◌*ℤ◌, refl, sym, ◌∙◌, ap, ⊎_elim, inl, inr, arith}
use Rattle.std.specs.Prelude.{nat_le}
use Rattle.std.proofs.lemmas.Bool.{cases_lt}
use Rattle.std.proofs.lemmas.Bool.Decides.{nat_tests}
use Rattle.cox_lemmas.proofs.Ring.{times_zero}
use Rattle.cox_poly.specs.Coefficients.{Coefficients, zero_polynomial, one_polynomial, plus, times_q}
use Rattle.cox_poly.specs.Products.{times_q_power, flip}
use Rattle.cox_poly.specs.Multiples.{minus, scaled}
use Rattle.cox_poly.specs.Size.{HasDegreeAtMost}

-- the coefficient of q^n f at n + i is that of f at i
pub times_q_power_at : (f : Coefficients) (n k i : ℕ) → i + n ≡ k → times_q_power n f k ≡ f i
times_q_power_at f n k i e = let i_is : k - n ≡ i = omega arith in grind (arith, nat_tests)

-- q^n f has no term below n
pub times_q_power_below : (f : Coefficients) (n k : ℕ) → k < n → times_q_power n f k ≡ pos 0
times_q_power_below f n k h = grind (arith, nat_tests)

-- q^0 f = f and q^(n + 1) f = q (q^n f)
pub times_q_power-zero : (f : Coefficients) → times_q_power 0 f ≡ f
times_q_power-zero f = λ i k. times_q_power_at f 0 k k (omega arith) i

pub times_q_power-suc : (n : ℕ) (f : Coefficients) → times_q_power (suc n) f ≡ times_q (times_q_power n f)
times_q_power-suc n f = λ i k. at k i
  where
    at : (k : ℕ) → times_q_power (suc n) f k ≡ times_q (times_q_power n f) k
    at zero = times_q_power_below f (suc n) 0 (omega arith)
    at (suc k) = elim (cases_lt k n) [
      | inl below ↦ times_q_power_below f (suc n) (suc k) (omega arith) ∙ sym (times_q_power_below f n k below)
      | inr from ↦ times_q_power_at f (suc n) (suc k) (k - n) (omega arith) ∙ sym (times_q_power_at f n k (k - n) (omega arith))
    ]

pub times_q_power-one : (f : Coefficients) → times_q_power 1 f ≡ times_q f
times_q_power-one f = times_q_power-suc 0 f ∙ ap times_q (times_q_power-zero f)

-- q^n (c f) = c (q^n f)
pub times_q_power-scaled : (n : ℕ) (c : ℤ) (f : Coefficients) (k : ℕ) → times_q_power n (scaled c f) k ≡ c *ℤ times_q_power n f k
times_q_power-scaled n c f k = go (nat_le n k)
  where
    go : (b : Bool) → (if b then c *ℤ f (k - n) else pos 0) ≡ c *ℤ (if b then f (k - n) else pos 0)
    go true = refl
    go false = sym (times_zero c)

-- the coefficient of q^n f(1/q) at n - j is that of f at j, and it has no term above n
pub flip_at : (f : Coefficients) (n k j : ℕ) → j + k ≡ n → flip n f k ≡ f j
flip_at f n k j e = let j_is : n - k ≡ j = omega arith in grind (arith, nat_tests)

pub flip_above : (f : Coefficients) (n k : ℕ) → n < k → flip n f k ≡ pos 0
flip_above f n k h = grind (arith, nat_tests)

-- 0 and 1 turned round, sums, differences and multiples
pub flip-none : (n : ℕ) → flip n zero_polynomial ≡ zero_polynomial
flip-none n = λ i k. at k (nat_le k n) i
  where
    at : (k : ℕ) (b : Bool) → (if b then pos 0 else pos 0) ≡ pos 0
    at k true = refl
    at k false = refl

pub flip-one : flip 0 one_polynomial ≡ one_polynomial
flip-one = λ i k. at k i
  where
    at : (k : ℕ) → flip 0 one_polynomial k ≡ one_polynomial k
    at zero = flip_at one_polynomial 0 0 0 (omega arith)
    at (suc k) = flip_above one_polynomial 0 (suc k) (omega arith)

pub flip-plus : (n : ℕ) (f g : Coefficients) → flip n (plus f g) ≡ plus (flip n f) (flip n g)
flip-plus n f g = λ i k. at k (nat_le k n) i
  where
    at : (k : ℕ) (b : Bool) → (if b then f (n - k) +ℤ g (n - k) else pos 0)
        ≡ (if b then f (n - k) else pos 0) +ℤ (if b then g (n - k) else pos 0)
    at k true = refl
    at k false = refl

pub flip-minus : (n : ℕ) (f g : Coefficients) → flip n (minus f g) ≡ minus (flip n f) (flip n g)
flip-minus n f g = λ i k. at k (nat_le k n) i
  where
    at : (k : ℕ) (b : Bool) → (if b then f (n - k) -ℤ g (n - k) else pos 0)
        ≡ (if b then f (n - k) else pos 0) -ℤ (if b then g (n - k) else pos 0)
    at k true = refl
    at k false = refl

pub flip-scaled : (n : ℕ) (c : ℤ) (f : Coefficients) (k : ℕ) → flip n (scaled c f) k ≡ c *ℤ flip n f k
flip-scaled n c f k = go (nat_le k n)
  where
    go : (b : Bool) → (if b then c *ℤ f (n - k) else pos 0) ≡ c *ℤ (if b then f (n - k) else pos 0)
    go true = refl
    go false = sym (times_zero c)

-- turned round in i degrees more, f gains i factors q
pub flip-raised : (i m n : ℕ) (f : Coefficients) → n ≡ i + m → HasDegreeAtMost f m → (k : ℕ) → flip n f k ≡ times_q_power i (flip m f) k
flip-raised i m n f e low k = ⊎_elim
    (λ (l : k < i). flip_at f n k (n - k) (omega arith) ∙ low (n - k) (omega arith) ∙ sym (times_q_power_below (flip m f) i k l))
    (λ (l : i ≤ k). let j : k - i + i ≡ k = omega arith in ⊎_elim
    (λ (a : m < k - i). flip_above f n k (omega arith)
    ∙ sym (times_q_power_at (flip m f) i k (k - i) j ∙ flip_above f m (k - i) a))
    (λ (b : k - i ≤ m). flip_at f n k (n - k) (omega arith)
    ∙ sym (times_q_power_at (flip m f) i k (k - i) j ∙ flip_at f m (k - i) (n - k) (omega arith)))
    (cases_lt m (k - i)))
    (cases_lt k i)

-- in one degree more one; and q f turned round in one degree more is f turned round
pub flip-suc : (n : ℕ) (f : Coefficients) → HasDegreeAtMost f n → (k : ℕ) → flip (suc n) f k ≡ times_q (flip n f) k
flip-suc n f low k =
    flip-raised 1 n (suc n) f (omega arith) low k ∙ ap (λ (h : Coefficients). h k) (times_q_power-one (flip n f))

pub flip-times_q : (n : ℕ) (f : Coefficients) (k : ℕ) → flip (suc n) (times_q f) k ≡ flip n f k
flip-times_q n f k = elim (cases_lt n k) [
  | inl above ↦ top k above ∙ sym (flip_above f n k above)
  | inr within ↦ let j_is : suc (n - k) + k ≡ suc n = omega arith in flip_at (times_q f) (suc n) k (suc (n - k)) j_is
      ∙ sym (flip_at f n k (n - k) (omega arith))
]
  where
    top : (k : ℕ) → n < k → flip (suc n) (times_q f) k ≡ pos 0
    top k above = elim (cases_lt (suc n) k) [
      | inl higher ↦ flip_above (times_q f) (suc n) k higher
      | inr at_top ↦ flip_at (times_q f) (suc n) k 0 (omega arith)
    ]

pub flip_low-times_q : (f : Coefficients) → flip 0 (times_q f) ≡ zero_polynomial
flip_low-times_q f = λ i k. at k i
  where
    at : (k : ℕ) → flip 0 (times_q f) k ≡ pos 0
    at zero = flip_at (times_q f) 0 0 0 (omega arith)
    at (suc k) = flip_above (times_q f) 0 (suc k) (omega arith)
