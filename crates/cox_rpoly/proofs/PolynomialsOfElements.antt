-- R of two elements, which is the recursion along the normal form of the second.
use Rattle.std.proofs.Common.{◌≡◌, ℕ, ◌+◌, ◌^◌, ◌<◌, ◌≤◌, List, ◌∷◌, pos, ap, sym, ◌∙◌, ⊎_elim, arith}
use Rattle.cox_base.specs.IntegerMatrix.{IntegerMatrix}
use Rattle.cox_base.specs.Admissible.{IsAdmissible}
use Rattle.cox_base.specs.Element.{SameElement}
use Rattle.cox_base.specs.ShortLex.{normal_form}
use Rattle.cox_base.specs.Length.{word_length}
use Rattle.cox_base.specs.Descents.{IsLeftDescent}
use Rattle.cox_base.specs.Bruhat.{IsBelow}
use Rattle.cox_reflect.specs.LeastDescent.{IsLeastLeftDescent}
use Rattle.cox_reflect.proofs.Elements.{same-refl, same-sym, same-square}
use Rattle.cox_reflect.proofs.Search.{normal_form-same, normal_form-equal, word_length-equal}
use Rattle.cox_reflect.proofs.Lengths.{word_length-is, IsReduced-normal_form}
use Rattle.cox_reflect.proofs.Roots.{left_descent-letter}
use Rattle.cox_reflect.proofs.Deletion.{left_length}
use Rattle.cox_reflect.proofs.NormalForm.{normal_form-descent}
use Rattle.cox_reflect.proofs.Bruhat.{below-same}
use Rattle.cox_poly.specs.Coefficients.{Coefficients, one_polynomial, plus, times_q, times_q_less_one}
use Rattle.cox_poly.specs.Size.{HasNormAtMost, HasDegreeAtMost}
use Rattle.cox_rpoly.specs.RPolynomial.{r_polynomial}
use Rattle.cox_rpoly.specs.Recursion.{r_along}
use Rattle.cox_rpoly.proofs.AlongWords.{along-shorter, along-longer, along-same, along-itself, along-not_below, along-degree, along-norm}
use Rattle.cox_rpoly.proofs.Expansion.{r_polynomial-is}

module _ (A : IntegerMatrix) (g : IsAdmissible A) where
  pub r_polynomial-same : {x y v w : List ℕ} → SameElement A x y → SameElement A v w → r_polynomial A x v ≡ r_polynomial A y w
  r_polynomial-same {x} {y} {v} {w} e f =
      r_polynomial-is A g x v ∙ ap (r_along A x) (normal_form-equal A g f) ∙ along-same A g e (normal_form A w)
      ∙ sym (r_polynomial-is A g y w)

  pub r_polynomial-equal : {x w : List ℕ} → SameElement A x w → r_polynomial A x w ≡ one_polynomial
  r_polynomial-equal {x} {w} e =
      r_polynomial-same e (same-refl A g w) ∙ r_polynomial-is A g w w
      ∙ along-itself A g w (normal_form A w) (IsReduced-normal_form A g w) (same-sym A g (normal_form-same A g w))

  pub r_polynomial-not_below : (x w : List ℕ) → (IsBelow A x w → ⊥) → (k : ℕ) → r_polynomial A x w k ≡ pos 0
  r_polynomial-not_below x w not_below k =
      ap (λ (f : Coefficients). f k) (r_polynomial-is A g x w)
      ∙ along-not_below A g x (normal_form A w) (IsReduced-normal_form A g w)
      (λ b. not_below (below-same A g (same-refl A g x) (normal_form-same A g w) b)) k

  first : (w : List ℕ) (s : ℕ) → IsLeastLeftDescent A w s → normal_form A w ≡ s ∷ normal_form A (s ∷ w)
  first w s d = normal_form-descent A g w s d.descent (λ t l e. let k = d.least t e in omega (arith, k, l))

  pub r_polynomial-shorter : (x w : List ℕ) (s : ℕ) → IsLeastLeftDescent A w s → IsLeftDescent A x s → r_polynomial A x w
      ≡ r_polynomial A (s ∷ x) (s ∷ w)
  r_polynomial-shorter x w s d c =
      r_polynomial-is A g x w ∙ ap (r_along A x) (first w s d) ∙ along-shorter A x s (normal_form A (s ∷ w)) c
      ∙ sym (r_polynomial-is A g (s ∷ x) (s ∷ w))

  pub r_polynomial-moved : (x w : List ℕ) (s : ℕ) → IsLeastLeftDescent A w s → (IsLeftDescent A x s → ⊥) → r_polynomial A (s ∷ x) w
      ≡ r_polynomial A x (s ∷ w)
  r_polynomial-moved x w s d n =
      let back : word_length A (s ∷ s ∷ x) ≡ word_length A x = word_length-equal A g (same-square A g s x)
      in let rising : word_length A x < word_length A (s ∷ x)
      = ⊎_elim (λ e. omega (arith, e)) (λ e. absurd (n (omega (arith, e)))) (left_length A g s x (left_descent-letter A g w s d.descent))
      in r_polynomial-shorter (s ∷ x) w s d (omega (arith, back, rising)) ∙ r_polynomial-same (same-square A g s x) (same-refl A g (s ∷ w))

  pub r_polynomial-longer : (x w : List ℕ) (s : ℕ) → IsLeastLeftDescent A w s → (IsLeftDescent A x s → ⊥)
      → r_polynomial A x w ≡ plus (times_q_less_one (r_polynomial A (s ∷ x) w)) (times_q (r_polynomial A (s ∷ x) (s ∷ w)))
  r_polynomial-longer x w s d n =
      r_polynomial-is A g x w ∙ ap (r_along A x) (first w s d) ∙ along-longer A x s (normal_form A (s ∷ w)) n
      ∙ ap (λ (f : Coefficients). plus (times_q_less_one f) (times_q (r_along A (s ∷ x) (normal_form A (s ∷ w)))))
      (sym (r_polynomial-is A g x (s ∷ w)) ∙ sym (r_polynomial-moved x w s d n))
      ∙ ap (λ (h : Coefficients). plus (times_q_less_one (r_polynomial A (s ∷ x) w)) (times_q h))
      (sym (r_polynomial-is A g (s ∷ x) (s ∷ w)))

  pub r_polynomial-norm : (x w : List ℕ) (n : ℕ) → word_length A w ≤ word_length A x + n → HasNormAtMost (r_polynomial A x w) (3 ^ n)
  r_polynomial-norm x w n near = rw (r_polynomial-is A g x w)
      (along-norm A g x (normal_form A w) n (omega (arith, near, word_length-is A w)))

  pub r_polynomial-degree : (x w : List ℕ) (n : ℕ) → word_length A w ≤ word_length A x + n → HasDegreeAtMost (r_polynomial A x w) n
  r_polynomial-degree x w n near = rw (r_polynomial-is A g x w)
      (along-degree A g x (normal_form A w) n (omega (arith, near, word_length-is A w)))

  -- along the normal form of w
  pub r_polynomial-form : (x w form : List ℕ) → form ≡ normal_form A w → r_along A x form ≡ r_polynomial A x w
  r_polynomial-form x w form e = rw e (sym (r_polynomial-is A g x w))
