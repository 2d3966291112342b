-- Bar, the map of the Hecke algebra that sends q to 1/q and T(y) to T(y^-1)^-1, and is additive (Kazhdan and Lusztig 1979, section 1;
-- Humphreys 7.7).
use Rattle.std.specs.Prelude.{◌≡◌, ℕ, ◌+◌, ◌-◌, ◌<◌, List, pos}
use Rattle.cox_base.specs.IntegerMatrix.{IntegerMatrix}
use Rattle.cox_base.specs.ShortLex.{normal_form}
use Rattle.cox_base.specs.Length.{word_length}
use Rattle.cox_base.specs.Bruhat.{IsBelow}
use Rattle.cox_poly.specs.Products.{product, flip}
use Rattle.cox_rpoly.specs.InverseOperators.{left_inverse_word, unit}
use Rattle.cox_hecke.specs.Family.{Family, RespectsElements}
use Rattle.cox_hecke.specs.Sums.{sum_over}

-- h is a combination of the T(x) with x ≤ w, in which h(x) has a degree of at most n - l(x)
pub record IsCombination (A : IntegerMatrix) (n : ℕ) (w : List ℕ) (h : Family) : Type 0 where
  pub element : RespectsElements A h
  pub outside : (x : List ℕ) → ¬ IsBelow A x w → (k : ℕ) → h x k ≡ pos 0
  pub degree : (x : List ℕ) (k : ℕ) → n < word_length A x + k → h x k ≡ pos 0

-- q^n times bar of the sum of the h(y) T(y) over the words y. For such a combination its coefficients are polynomials in q. The term of y
-- is q^(n-l(y)) h(y)(1/q) times q^l(y) T(y^-1)^-1, where T(y^-1)^-1 is T(s1)^-1 T(s2)^-1 .. T(sk)^-1 for the normal form s1 s2 .. sk of y.
abbrev pub bar : IntegerMatrix → ℕ → List (List ℕ) → Family → Family
bar A n words h x = sum_over words (λ y. product (left_inverse_word A (normal_form A y) (unit A) x) (flip (n - word_length A y) (h y)))
