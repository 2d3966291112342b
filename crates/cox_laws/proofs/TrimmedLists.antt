-- Lists of coefficients without their trailing zeros.
use Rattle.std.proofs.Common.{◌≡◌, zero, suc, ◌-◌, List, [], ◌∷◌, length, ℤ, pos, negsuc, refl, ◌∙◌, arith}
use Rattle.std.proofs.lemmas.Int.{ints}
use Rattle.cox_poly.specs.Polynomial.{IsPolynomial, SameCoefficients}

-- a coefficient before others, which have no trailing zero
abbrev before : ℤ → List ℤ → List ℤ
before c (d ∷ p) = c ∷ d ∷ p
before (pos zero) [] = []
before (pos (suc n)) [] = pos (suc n) ∷ []
before (negsuc n) [] = negsuc n ∷ []

abbrev pub trim : List ℤ → List ℤ
trim [] = []
trim (c ∷ p) = before c (trim p)

before-same : (c : ℤ) (p : List ℤ) → SameCoefficients (before c p) (c ∷ p)
before-same c (d ∷ p) k = refl
before-same (pos zero) [] zero = refl
before-same (pos zero) [] (suc k) = refl
before-same (pos (suc n)) [] k = refl
before-same (negsuc n) [] k = refl

pub trim-same : (p : List ℤ) → SameCoefficients (trim p) p
trim-same [] k = refl
trim-same (c ∷ p) zero = before-same c (trim p) zero
trim-same (c ∷ p) (suc k) = before-same c (trim p) (suc k) ∙ trim-same p k

before-polynomial : (c : ℤ) (p : List ℤ) → IsPolynomial p → IsPolynomial (before c p)
before-polynomial c (d ∷ p) is some =
    let e : length (c ∷ d ∷ p) - 1 ≡ suc (length (d ∷ p) - 1) = omega arith in
    rw e (is (omega arith))
before-polynomial (pos zero) [] is some = absurd (omega (arith, some))
before-polynomial (pos (suc n)) [] is some = λ e. omega (arith, ints, e)
before-polynomial (negsuc n) [] is some = λ e. omega (arith, ints, e)

pub trim-polynomial : (p : List ℤ) → IsPolynomial (trim p)
trim-polynomial [] some = absurd (omega (arith, some))
trim-polynomial (c ∷ p) some = before-polynomial c (trim p) (trim-polynomial p) some
