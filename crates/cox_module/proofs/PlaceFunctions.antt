-- Functions of the places of a cell as functions of elements.
use Rattle.std.proofs.Common.{◌≡◌, ℕ, zero, suc, ◌<◌, if◌then◌else◌, List, [], ◌∷◌, length, refl, ap, arith}
use Rattle.cox_base.specs.IntegerMatrix.{IntegerMatrix}
use Rattle.cox_base.specs.Admissible.{IsAdmissible}
use Rattle.cox_base.specs.Element.{SameElement}
use Rattle.cox_reflect.proofs.Elements.{same-refl}
use Rattle.cox_hecke.specs.Family.{Family, RespectsElements}
use Rattle.cox_hecke.specs.ListedElements.{is_same}
use Rattle.cox_hecke.proofs.ListSums.{same-is_same, not_same-is_same, is_same-respects}
use Rattle.cox_context.specs.Numbers.{word_at}
use Rattle.cox_module.specs.FreeModule.{Vector}

module _ (A : IntegerMatrix) (g : IsAdmissible A) where
  -- the first place that names x
  pub number : List (List ℕ) → List ℕ → ℕ
  number [] x = 0
  number (w ∷ words) x = if is_same A x w then 0 else suc (number words x)

  number-same : (words : List (List ℕ)) {x y : List ℕ} → SameElement A x y → number words x ≡ number words y
  unfolding number
  number-same [] e = refl
  number-same (w ∷ words) e = rw (is_same-respects A g w e, number-same words e) refl

  number-at : (words : List (List ℕ)) (x : List ℕ) (k : ℕ) → k < length words → SameElement A x (word_at words k)
      → ((j : ℕ) → j < k → SameElement A x (word_at words j) → ⊥) → number words x ≡ k
  unfolding number
  number-at [] x k l e first = absurd (omega (arith, l))
  number-at (w ∷ words) x zero l e first = rw (same-is_same A g e) refl
  number-at (w ∷ words) x (suc k) l e first =
      rw (not_same-is_same A g x w (first 0 (omega arith)))
      (ap suc (number-at words x k (omega (arith, l)) e (λ j m. first (suc j) (omega (arith, m)))))

  module _ (cell : List (List ℕ)) where
    pub as_family : Vector → Family
    as_family f x = f (number cell x)

    pub as_family-respects : (f : Vector) → RespectsElements A (as_family f)
    unfolding as_family
    as_family-respects f x y e k = ap (λ (i : ℕ). f i k) (number-same cell e)

    pub as_family-at : ((i j : ℕ) → i < length cell → j < length cell → SameElement A (word_at cell i) (word_at cell j) → i ≡ j)
        → (f : Vector) (k : ℕ) → k < length cell → as_family f (word_at cell k) ≡ f k
    unfolding as_family
    as_family-at distinct f k l = ap f (number-at cell (word_at cell k) k l (same-refl A g (word_at cell k))
        (λ j m same. let e = distinct k j l (omega (arith, m, l)) same in omega (arith, m, e)))
