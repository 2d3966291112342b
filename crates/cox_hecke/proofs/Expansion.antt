-- T(w^-1)^-1 by R-polynomials (Humphreys 7.4), along any reduced word of w.
use Rattle.std.proofs.Common.{◌≡◌, ℕ, ◌-◌, List, [], ◌∷◌, length, ap, sym, ◌∙◌}
use Rattle.std.proofs.lemmas.List.Elements.{All-nil, All-cons}
use Rattle.cox_base.specs.Matrix.{IsLetter, IsWord}
use Rattle.cox_base.specs.IntegerMatrix.{IntegerMatrix}
use Rattle.cox_base.specs.Admissible.{IsAdmissible}
use Rattle.cox_base.specs.Length.{word_length}
use Rattle.cox_base.specs.Reduced.{IsReduced}
use Rattle.cox_reflect.proofs.Elements.{same-refl}
use Rattle.cox_reflect.proofs.Lengths.{IsReduced-tail}
use Rattle.cox_poly.specs.Coefficients.{Coefficients}
use Rattle.cox_rpoly.specs.InverseOperators.{left_inverse_word}
use Rattle.cox_rpoly.specs.Sign.{times_sign}
use Rattle.cox_rpoly.specs.RPolynomial.{r_polynomial}
use Rattle.cox_rpoly.proofs.Expansion.{inverse-along}
use Rattle.cox_hecke.specs.Family.{Family}
use Rattle.cox_hecke.specs.Operators.{basis}
use Rattle.cox_hecke.proofs.Descents.{reduced-letter}
use Rattle.cox_hecke.proofs.RPolynomials.{along-operators, r-word}
use Rattle.cox_hecke.proofs.OperatorLaws.{unit-basis}

module _ (A : IntegerMatrix) (g : IsAdmissible A) where
  reduced-word : (u : List ℕ) → IsReduced A u → IsWord A.rank u
  reduced-word [] c = All-nil (IsLetter A.rank)
  reduced-word (s ∷ u) c = All-cons (IsLetter A.rank) s u (reduced-letter A g s u c) (reduced-word u (IsReduced-tail A g s u c))

  pub inverse-expansion : (u x : List ℕ) (k : ℕ) → IsReduced A u
      → left_inverse_word A u (basis A []) x k ≡ times_sign (length u - word_length A x) (r_polynomial A x u) k
  inverse-expansion u x k c =
      ap (λ (h : Family). left_inverse_word A u h x k) (sym (unit-basis A g))
      ∙ ap (λ (f : Coefficients). f k) (inverse-along A g u x (reduced-word u c))
      ∙ ap (λ (f : Coefficients). times_sign (length u - word_length A x) f k)
      (along-operators A u x ∙ sym (r-word A g x u u c (same-refl A g u)))
