-- Q(x,w) as a value: it is what every inverse row of w has at x.
use Rattle.std.proofs.Common.{◌≡◌, ℕ, List, pos, refl, ap, sym, ◌∙◌}
use Rattle.cox_base.specs.IntegerMatrix.{IntegerMatrix}
use Rattle.cox_base.specs.Admissible.{IsAdmissible}
use Rattle.cox_base.specs.Element.{SameElement}
use Rattle.cox_base.specs.Bruhat.{IsBelow}
use Rattle.cox_poly.specs.Coefficients.{Coefficients, one_polynomial}
use Rattle.cox_inverse.specs.InverseRow.{IsInverse}
use Rattle.cox_inverse.proofs.OneInverseRow.{inverse_row-same}
use Rattle.cox_inverse.proofs.InverseRowExists.{inverse_of, inverse_of-is, inverse_of-value, inverse_row-top}

module _ (A : IntegerMatrix) (g : IsAdmissible A) where
  -- it is what the one inverse row of w has at x
  pub inverse-value : (x w : List ℕ) (f : Coefficients) → IsInverse A x w f → f ≡ inverse_of A g w x
  inverse-value x w f c = (λ i k. c.at k i) ∙ sym (inverse_of-value A g w c.row c.is x)

  -- there is one
  pub inverse-exists : (x w : List ℕ) → (f : Coefficients) × IsInverse A x w f
  inverse-exists x w = (inverse_of A g w x, record { row = inverse_of A g w; is = inverse_of-is A g w; at = λ k. refl })

  -- and no other
  pub inverse-unique : (x w : List ℕ) (f h : Coefficients) → IsInverse A x w f → IsInverse A x w h → (k : ℕ) → f k ≡ h k
  inverse-unique x w f h c d k = ap (λ (j : Coefficients). j k) (inverse-value x w f c ∙ sym (inverse-value x w h d))

  -- by any words
  pub inverse-same : (x y v w : List ℕ) (f : Coefficients) → SameElement A x y → SameElement A v w → IsInverse A x v f → IsInverse A y w f
  inverse-same x y v w f e e' c =
      record { row = c.row; is = inverse_row-same A g v w c.row e' c.is; at = λ k. c.at k ∙ c.is.element x y e k }

  -- 0 unless x ≤ w
  pub inverse-outside : (x w : List ℕ) (f : Coefficients) → (IsBelow A x w → ⊥) → IsInverse A x w f → (k : ℕ) → f k ≡ pos 0
  inverse-outside x w f n c k = c.at k ∙ c.is.outside x n k

  -- Q(w,w) = 1
  pub inverse-own : (w : List ℕ) (f : Coefficients) → IsInverse A w w f → (k : ℕ) → f k ≡ one_polynomial k
  inverse-own w f c k = c.at k ∙ inverse_row-top A g w c.row c.is k
