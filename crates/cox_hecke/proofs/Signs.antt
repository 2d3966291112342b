-- Signs as integers.
use Rattle.std.proofs.Common.{◌≡◌, ℕ, zero, suc, ◌+◌, ◌-◌, ◌≤◌, ℤ, pos, ◌*ℤ◌, neg_ℤ, ap, sym, ◌∙◌, arith}
use Rattle.std.proofs.lemmas.Int.{ints}
use Rattle.cox_lemmas.proofs.Ring.{mul_neg, neg_mul, mul_assoc, one_times}
use Rattle.cox_poly.specs.Coefficients.{Coefficients}
use Rattle.cox_poly.specs.Multiples.{scaled}
use Rattle.cox_rpoly.specs.Sign.{times_sign}

-- (-1)^d
abbrev pub sign : ℕ → ℤ
sign zero = pos 1
sign (suc d) = neg_ℤ (sign d)

-- a sign of a polynomial is a factor
pub times_sign-scaled : (d : ℕ) (f : Coefficients) (k : ℕ) → times_sign d f k ≡ scaled (sign d) f k
times_sign-scaled zero f k = omega (arith, ints)
times_sign-scaled (suc d) f k = ap neg_ℤ (times_sign-scaled d f k) ∙ sym (neg_mul (sign d) (f k))

-- 1 or -1
pub sign-square : (d : ℕ) → sign d *ℤ sign d ≡ pos 1
sign-square zero = omega (arith, ints)
sign-square (suc d) = rw (neg_mul (sign d) (neg_ℤ (sign d)), mul_neg (sign d) (sign d), sign-square d) (omega (arith, ints))

-- twice the same sign
pub sign-twice : (d : ℕ) (a : ℤ) → sign d *ℤ (sign d *ℤ a) ≡ a
sign-twice d a = sym (mul_assoc (sign d) (sign d) a) ∙ ap (λ (c : ℤ). c *ℤ a) (sign-square d) ∙ one_times a

-- the sign of a sum
pub sign-add : (a d : ℕ) → sign (a + d) ≡ sign a *ℤ sign d
sign-add zero d = let e : zero + d ≡ d = omega arith in rw e (sym (one_times (sign d)))
sign-add (suc a) d =
    let e : suc a + d ≡ suc (a + d) = omega arith in rw e (ap neg_ℤ (sign-add a d) ∙ sym (neg_mul (sign a) (sign d)))

-- the sign of a difference
pub sign-less : (a b : ℕ) → a ≤ b → sign (b - a) ≡ sign a *ℤ sign b
sign-less a b l =
    let e : a + (b - a) ≡ b = omega arith
    in sym (ap (λ (d : ℕ). sign a *ℤ sign d) (sym e) ∙ ap (λ (c : ℤ). sign a *ℤ c) (sign-add a (b - a)) ∙ sign-twice a (sign (b - a)))
