-- Powers of -v, and polynomials in v^2.
use Rattle.std.proofs.Common.{◌≡◌, ℕ, zero, suc, ◌+◌, ℤ, pos, ◌+ℤ◌, neg_ℤ, refl, ap, sym, ◌∙◌, arith}
use Rattle.std.proofs.lemmas.Int.{ints}
use Rattle.cox_poly.specs.Coefficients.{Coefficients, zero_polynomial, one_polynomial, plus, times_q}
use Rattle.cox_poly.specs.Products.{times_q_power}
use Rattle.cox_poly.specs.Multiples.{negated, scaled}
use Rattle.cox_poly.proofs.Coefficients.{times_q_power-zero, times_q_power-suc}
use Rattle.cox_module.proofs.ActionOnFunctions.{lift, spread}

-- f(v^2) is linear, and q becomes v^2
pub spread-plus : (f h : Coefficients) (k : ℕ) → spread (plus f h) k ≡ spread f k +ℤ spread h k
spread-plus f h zero = refl
spread-plus f h (suc zero) = refl
spread-plus f h (suc (suc k)) = spread-plus (λ j. f (suc j)) (λ j. h (suc j)) k

pub spread-negated : (f : Coefficients) (k : ℕ) → spread (negated f) k ≡ negated (spread f) k
spread-negated f zero = refl
spread-negated f (suc zero) = refl
spread-negated f (suc (suc k)) = spread-negated (λ j. f (suc j)) k

pub spread-scaled : (c : ℤ) (f : Coefficients) (k : ℕ) → spread (scaled c f) k ≡ scaled c (spread f) k
spread-scaled c f zero = refl
spread-scaled c f (suc zero) = omega (arith, ints)
spread-scaled c f (suc (suc k)) = spread-scaled c (λ j. f (suc j)) k

pub spread-times_q : (f : Coefficients) (k : ℕ) → spread (times_q f) k ≡ times_q (times_q (spread f)) k
spread-times_q f zero = refl
spread-times_q f (suc zero) = refl
spread-times_q f (suc (suc k)) = refl

pub spread-none : (k : ℕ) → spread zero_polynomial k ≡ pos 0
spread-none zero = refl
spread-none (suc zero) = refl
spread-none (suc (suc k)) = spread-none k

pub spread-one : (k : ℕ) → spread one_polynomial k ≡ one_polynomial k
spread-one zero = refl
spread-one (suc zero) = refl
spread-one (suc (suc k)) = spread-none k

-- two more powers
pub lift-two : (n : ℕ) (f : Coefficients) → lift (suc (suc n)) f ≡ times_q (times_q (lift n f))
lift-two n f = λ i k. at k i
  where
    twice : (a : ℤ) → neg_ℤ (neg_ℤ a) ≡ a
    twice a = omega (arith, ints)

    at : (k : ℕ) → lift (suc (suc n)) f k ≡ times_q (times_q (lift n f)) k
    at zero = refl
    at (suc zero) = refl
    at (suc (suc k)) = twice (lift n f k)

pub lift-square : (n : ℕ) (f : Coefficients) → lift n (times_q (times_q f)) ≡ lift (suc (suc n)) f
lift-square zero f = sym (lift-two zero f)
lift-square (suc n) f = ap (λ (h : Coefficients). negated (times_q h)) (lift-square n f)

-- q^k in f(v^2) is v^(2 k)
pub lift-power : (k n m : ℕ) (f : Coefficients) → m ≡ n + (k + k) → lift n (spread (times_q_power k f)) ≡ lift m (spread f)
lift-power zero n m f e =
    ap (λ (h : Coefficients). lift n (spread h)) (times_q_power-zero f)
    ∙ ap (λ (j : ℕ). lift j (spread f)) (let same : n ≡ m = omega (arith, e) in same)
lift-power (suc k) n m f e =
    ap (λ (h : Coefficients). lift n (spread h)) (times_q_power-suc k f)
    ∙ ap (lift n) (λ i j. spread-times_q (times_q_power k f) j i) ∙ lift-square n (spread (times_q_power k f))
    ∙ lift-power k (suc (suc n)) m f (omega (arith, e))

-- it can be cancelled
pub lift-cancel : (n : ℕ) (f h : Coefficients) → lift n f ≡ lift n h → f ≡ h
lift-cancel zero f h e = e
lift-cancel (suc n) f h e = lift-cancel n f h (λ i k. at k i)
  where
    back : (a b : ℤ) → neg_ℤ a ≡ neg_ℤ b → a ≡ b
    back a b e = omega (arith, ints, e)

    at : (k : ℕ) → lift n f k ≡ lift n h k
    at k = back (lift n f k) (lift n h k) (ap (λ (p : Coefficients). p (suc k)) e)
