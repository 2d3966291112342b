-- T(w) by its coefficients: 1 at w, and 0 elsewhere.
use Rattle.std.proofs.Common.{◌≡◌, ℕ, List, refl}
use Rattle.cox_base.specs.IntegerMatrix.{IntegerMatrix}
use Rattle.cox_base.specs.Admissible.{IsAdmissible}
use Rattle.cox_base.specs.Element.{SameElement}
use Rattle.cox_reflect.proofs.Search.{normal_form-equal}
use Rattle.cox_poly.specs.Coefficients.{zero_polynomial, one_polynomial}
use Rattle.cox_hecke.specs.Family.{RespectsElements}
use Rattle.cox_hecke.specs.Operators.{basis}
use Rattle.cox_hecke.proofs.ListSums.{same-is_same, not_same-is_same}

module _ (A : IntegerMatrix) (g : IsAdmissible A) where
  -- at w, by any word
  pub basis-own : (w x : List ℕ) → SameElement A w x → basis A w x ≡ one_polynomial
  basis-own w x e = rw (same-is_same A g e) refl

  -- elsewhere
  pub basis-other : (w x : List ℕ) → (SameElement A w x → ⊥) → basis A w x ≡ zero_polynomial
  basis-other w x n = rw (not_same-is_same A g w x n) refl

  -- the same at all words of an element
  pub basis-respects : (w : List ℕ) → RespectsElements A (basis A w)
  basis-respects w x y e k = rw (normal_form-equal A g e) refl
