-- Combinations of the basis elements T(x) of the Hecke algebra, with polynomials in q as coefficients.
use Rattle.std.specs.Prelude.{◌≡◌, ℕ, List}
use Rattle.cox_base.specs.IntegerMatrix.{IntegerMatrix}
use Rattle.cox_base.specs.Element.{SameElement}
use Rattle.cox_poly.specs.Coefficients.{Coefficients}

-- A polynomial for each element x, which is given by its words: the coefficient of T(x). It may be other than 0 at infinitely many x.
abbrev pub Family : Type 0
Family = List ℕ → Coefficients

-- one polynomial for each element, whichever of its words is taken
abbrev pub RespectsElements : IntegerMatrix → Family → Type 0
RespectsElements A h = (x y : List ℕ) → SameElement A x y → (k : ℕ) → h x k ≡ h y k
