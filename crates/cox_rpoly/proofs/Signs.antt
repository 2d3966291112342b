-- Signs of polynomials: of sums, differences and multiples by q, and twice the same.
use Rattle.std.proofs.Common.{◌≡◌, ℕ, zero, suc, pos, ◌+ℤ◌, ◌-ℤ◌, refl, arith}
use Rattle.std.proofs.lemmas.Int.{ints}
use Rattle.cox_poly.specs.Coefficients.{Coefficients, zero_polynomial, plus, times_q}
use Rattle.cox_poly.specs.Multiples.{minus, negated}
use Rattle.cox_rpoly.specs.Sign.{times_sign}

pub times_sign-plus : (d : ℕ) (f h : Coefficients) (k : ℕ) → times_sign d (plus f h) k ≡ times_sign d f k +ℤ times_sign d h k
times_sign-plus zero f h k = refl
times_sign-plus (suc d) f h k = omega (arith, ints, times_sign-plus d f h k)

pub times_sign-minus : (d : ℕ) (f h : Coefficients) (k : ℕ) → times_sign d (minus f h) k ≡ times_sign d f k -ℤ times_sign d h k
times_sign-minus zero f h k = refl
times_sign-minus (suc d) f h k = omega (arith, ints, times_sign-minus d f h k)

pub times_sign-times_q : (d : ℕ) (f : Coefficients) (k : ℕ) → times_sign d (times_q f) k ≡ times_q (times_sign d f) k
times_sign-times_q zero f k = refl
times_sign-times_q (suc d) f zero = omega (arith, ints, times_sign-times_q d f zero)
times_sign-times_q (suc d) f (suc k) = omega (arith, ints, times_sign-times_q d f (suc k))

pub times_sign-none : (d : ℕ) (k : ℕ) → times_sign d zero_polynomial k ≡ pos 0
times_sign-none zero k = refl
times_sign-none (suc d) k = omega (arith, ints, times_sign-none d k)

times_sign-negated : (d : ℕ) (f : Coefficients) (k : ℕ) → times_sign d (negated f) k ≡ negated (times_sign d f) k
times_sign-negated zero f k = refl
times_sign-negated (suc d) f k = omega (arith, ints, times_sign-negated d f k)

pub times_sign-twice : (d : ℕ) (f : Coefficients) (k : ℕ) → times_sign d (times_sign d f) k ≡ f k
times_sign-twice zero f k = refl
times_sign-twice (suc d) f k = omega (arith, ints, times_sign-negated d (times_sign d f) k, times_sign-twice d f k)
