-- The text of an inverse polynomial.
use Rattle.std.proofs.Common.{◌≡◌, ℕ, zero, suc, ◌+◌, ◌*◌, ◌<◌, ◌≤◌, List, [], codes, ℤ, pos, refl, ap, sym, ◌∙◌, ⊎_elim, arith}
use Rattle.std.proofs.lemmas.Bool.{cases_lt}
use Rattle.cox_base.specs.IntegerMatrix.{IntegerMatrix}
use Rattle.cox_base.specs.Admissible.{IsAdmissible}
use Rattle.cox_base.specs.Element.{SameElement}
use Rattle.cox_base.specs.Length.{word_length}
use Rattle.cox_base.specs.Bruhat.{IsBelow}
use Rattle.cox_reflect.proofs.Bruhat.{below-length, below-equal_length}
use Rattle.cox_poly.specs.Coefficients.{Coefficients, one_polynomial}
use Rattle.cox_poly.specs.Polynomial.{coefficient}
use Rattle.cox_poly.specs.PolynomialText.{polynomial_text}
use Rattle.cox_hecke.proofs.ElementLists.{below_or_not}
use Rattle.cox_inverse.specs.InverseRow.{IsInverse}
use Rattle.cox_inverse.proofs.InverseRowExists.{inverse_of, inverse_of-is, inverse_row-top}
use Rattle.cox_inverse.proofs.InverseDegree.{inverse_row-degree}
use Rattle.cox_inverse.proofs.InversePolynomials.{inverse-value}
use Rattle.cox_replies.specs.RowReply.{coefficients_to}
use Rattle.cox_replies.specs.InverseReply.{IsInverseText}
use Rattle.cox_replies.proofs.PolynomialTexts.{same_text, listed}

module _ (A : IntegerMatrix) (g : IsAdmissible A) where
  -- Q(x,w) has no coefficient of a degree other than 0 from half the length of w on
  pub inverse_of-high : (w x : List ℕ) (k : ℕ) → 0 < k → word_length A w ≤ 2 * k → inverse_of A g w x k ≡ pos 0
  inverse_of-high w x k some high = ⊎_elim
      (λ (below : IsBelow A x w). ⊎_elim
      (λ (shorter : word_length A x < word_length A w).
      inverse_row-degree A g w (inverse_of A g w) (inverse_of-is A g w) x k shorter (omega (arith, high)))
      (λ (long : word_length A w ≤ word_length A x).
      at_top (below-equal_length A g below (omega (arith, long, below-length A g below))))
      (cases_lt (word_length A x) (word_length A w)))
      (λ (none : IsBelow A x w → ⊥). (inverse_of-is A g w).outside x none k)
      (below_or_not A g x w)
    where
      one-above : (j : ℕ) → 0 < j → one_polynomial j ≡ pos 0
      one-above zero l = absurd (omega (arith, l))
      one-above (suc j) l = refl

      at_top : SameElement A x w → inverse_of A g w x k ≡ pos 0
      at_top e = (inverse_of-is A g w).element x w e k ∙ inverse_row-top A g w (inverse_of A g w) (inverse_of-is A g w) k ∙ one-above k some

  pub invpol-text : (y w : List ℕ) (p : List ℤ) → IsInverse A y w (coefficient p) → IsInverseText A y w (polynomial_text p)
  invpol-text y w p is = (
    inverse_of A g w,
    inverse_of-is A g w,
    same_text p (coefficients_to (word_length A w) (inverse_of A g w y))
        (λ k. ap (λ (f : Coefficients). f k) (inverse-value A g y w (coefficient p) is)
        ∙ sym (let e : 0 + k ≡ k = omega arith in rw e at (listed (inverse_of A g w y) 0 (word_length A w + 1) k
        (λ i above. let f : 0 + i ≡ i = omega arith in rw f (inverse_of-high w y i (omega (arith, above)) (omega (arith, above))))))),
  )

  pub invpol-zero : (y w : List ℕ) → (IsBelow A y w → ⊥) → IsInverseText A y w (codes "0")
  invpol-zero y w none = invpol-text y w []
      (record { row = inverse_of A g w; is = inverse_of-is A g w; at = λ k. sym ((inverse_of-is A g w).outside y none k) })
