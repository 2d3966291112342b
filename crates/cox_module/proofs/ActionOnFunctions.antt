-- The action of the T(s) on linear functions, where the letters of the polynomials are v = q^(1/2): `times_q` multiplies by v.
use Rattle.std.specs.Prelude.{ℕ, zero, suc, Bool, if◌then◌else◌, List, [], ◌∷◌, ℤ, pos}
use Rattle.cox_base.specs.IntegerMatrix.{IntegerMatrix}
use Rattle.cox_poly.specs.Coefficients.{Coefficients, zero_polynomial, plus, times_q}
use Rattle.cox_poly.specs.Multiples.{negated, scaled}
use Rattle.cox_rpoly.specs.InverseOperators.{shortens_left, left_inverse}
use Rattle.cox_hecke.specs.Family.{Family}
use Rattle.cox_hecke.specs.Sums.{sum_over}

-- f where b, else 0
abbrev pub only_if : Bool → Coefficients → Coefficients
only_if b f = if b then f else zero_polynomial

-- f(t(s) x), where f is linear: -f(x) where s is a left descent of x, else v^2 f(x) + v times the sum of weight(x,y) f(y) over the words
abbrev pub through : IntegerMatrix → (ℕ → List ℕ → List ℕ → ℤ) → List (List ℕ) → ℕ → Family → Family
through A weight words s f x = if shortens_left A s x then negated (f x)
    else plus (times_q (times_q (f x))) (times_q (sum_over words (λ y. scaled (weight s x y) (f y))))

-- f(t(s1) t(s2) .. t(sk) x)
abbrev pub through_word : IntegerMatrix → (ℕ → List ℕ → List ℕ → ℤ) → List (List ℕ) → List ℕ → Family → Family
through_word A weight words [] f = f
through_word A weight words (s ∷ u) f = through_word A weight words u (through A weight words s f)

-- (-v)^n f
abbrev pub lift : ℕ → Coefficients → Coefficients
lift zero f = f
lift (suc n) f = negated (times_q (lift n f))

-- f(v^2)
abbrev pub spread : Coefficients → Coefficients
spread f zero = f zero
spread f (suc zero) = pos 0
spread f (suc (suc k)) = spread (λ j. f (suc j)) k

-- - q T(s)^-1 h
abbrev pub hit : IntegerMatrix → ℕ → Family → Family
hit A s h x = negated (left_inverse A s h x)

abbrev pub hit_word : IntegerMatrix → List ℕ → Family → Family
hit_word A [] h = h
hit_word A (s ∷ u) h = hit A s (hit_word A u h)
