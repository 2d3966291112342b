-- (-1)^l(w) T(w), by its coefficients.
use Rattle.std.proofs.Common.{◌≡◌, ℕ, ◌-◌, List}
use Rattle.std.proofs.Common.{⊎_elim, ℤ, ◌*ℤ◌, refl, ap, sym, ◌∙◌, arith}
use Rattle.cox_base.specs.IntegerMatrix.{IntegerMatrix}
use Rattle.cox_base.specs.Admissible.{IsAdmissible}
use Rattle.cox_base.specs.Element.{SameElement}
use Rattle.cox_base.specs.Length.{word_length}
use Rattle.cox_lemmas.proofs.Ring.{times_zero}
use Rattle.cox_reflect.proofs.Search.{word_length-equal}
use Rattle.cox_poly.specs.Coefficients.{Coefficients, zero_polynomial, one_polynomial}
use Rattle.cox_poly.specs.Products.{flip}
use Rattle.cox_poly.specs.Multiples.{scaled}
use Rattle.cox_poly.proofs.Coefficients.{flip-none, flip-one, flip-scaled}
use Rattle.cox_hecke.specs.Family.{Family, RespectsElements}
use Rattle.cox_hecke.specs.Operators.{basis}
use Rattle.cox_hecke.proofs.ListSums.{same_or_not, is_same-respects}
use Rattle.cox_hecke.proofs.BasisElements.{basis-own, basis-other, basis-respects}
use Rattle.cox_hecke.proofs.Signs.{sign, sign-twice}

-- (-1)^l(w) T(w)
abbrev pub signed_basis : IntegerMatrix → List ℕ → Family
signed_basis A w x = scaled (sign (word_length A w)) (basis A w x)

module _ (A : IntegerMatrix) (g : IsAdmissible A) where
  -- at w, and elsewhere
  pub signed_basis-own : {w x : List ℕ} → SameElement A w x → signed_basis A w x ≡ scaled (sign (word_length A w)) one_polynomial
  signed_basis-own {w} {x} e = ap (scaled (sign (word_length A w))) (basis-own A g w x e)

  pub signed_basis-other : (w x : List ℕ) → (SameElement A w x → ⊥) → signed_basis A w x ≡ zero_polynomial
  signed_basis-other w x n =
      ap (scaled (sign (word_length A w))) (basis-other A g w x n) ∙ (λ i k. times_zero (sign (word_length A w)) i)

  -- by any word of x
  pub signed_basis-respects : (w : List ℕ) → RespectsElements A (signed_basis A w)
  signed_basis-respects w x y e k = ap (λ (a : ℤ). sign (word_length A w) *ℤ a) (basis-respects A g w x y e k)

  -- by any word of w
  pub signed_basis-first : {v w : List ℕ} (x : List ℕ) → SameElement A v w → signed_basis A v x ≡ signed_basis A w x
  signed_basis-first x e = rw (word_length-equal A g e, is_same-respects A g x e) refl

  -- without the sign
  pub signed_basis-unsigned : (w x : List ℕ) (k : ℕ) → sign (word_length A x) *ℤ signed_basis A w x k ≡ basis A w x k
  signed_basis-unsigned w x k = ⊎_elim
      (λ (e : SameElement A w x). ap (λ (n : ℕ). sign (word_length A x) *ℤ (sign n *ℤ basis A w x k)) (word_length-equal A g e)
      ∙ sign-twice (word_length A x) (basis A w x k))
      (λ (n : SameElement A w x → ⊥). ap (λ (f : Coefficients). sign (word_length A x) *ℤ f k) (signed_basis-other w x n)
      ∙ times_zero (sign (word_length A x)) ∙ ap (λ (f : Coefficients). f k) (sym (basis-other A g w x n)))
      (same_or_not A g w x)

  -- at x in the degree l(w) - l(x)
  pub signed_basis-flip : (w x : List ℕ) (k : ℕ) → flip (word_length A w - word_length A x) (signed_basis A w x) k ≡ signed_basis A w x k
  signed_basis-flip w x k = ⊎_elim here (λ n. ap (λ (f : Coefficients). flip (word_length A w - word_length A x) f k)
      (signed_basis-other w x n)
      ∙ ap (λ (f : Coefficients). f k) (flip-none (word_length A w - word_length A x) ∙ sym (signed_basis-other w x n)))
      (same_or_not A g w x)
    where
      here : SameElement A w x → flip (word_length A w - word_length A x) (signed_basis A w x) k ≡ signed_basis A w x k
      here e =
          let none : word_length A w - word_length A x ≡ 0 = omega (arith, word_length-equal A g e)
          in ap (λ (d : ℕ). flip d (signed_basis A w x) k) none ∙ ap (λ (f : Coefficients). flip 0 f k) (signed_basis-own e)
          ∙ flip-scaled 0 (sign (word_length A w)) one_polynomial k
          ∙ ap (λ (f : Coefficients). sign (word_length A w) *ℤ f k) flip-one ∙ ap (λ (f : Coefficients). f k) (sym (signed_basis-own e))
