-- The first letter of a normal form is the least letter that shortens it.
use Rattle.std.proofs.Common.{◌≡◌, ℕ, ◌<◌, List, ◌∷◌, length, ap, arith}
use Rattle.cox_base.specs.IntegerMatrix.{IntegerMatrix}
use Rattle.cox_base.specs.Admissible.{IsAdmissible}
use Rattle.cox_base.specs.Element.{SameElement}
use Rattle.cox_base.specs.ShortLex.{normal_form}
use Rattle.cox_base.specs.Descents.{IsLeftDescent}
use Rattle.cox_reflect.proofs.Elements.{same-trans, same-cons, same-square}
use Rattle.cox_reflect.proofs.Search.{normal_form-same}
use Rattle.cox_reflect.proofs.Lengths.{word_length-is, cons-word_length}
use Rattle.cox_reflect.proofs.ShortLexFirst.{IsBefore-head, none-before_normal_form}
use Rattle.cox_base.specs.Members.{IsElement}

module _ (A : IntegerMatrix) (g : IsAdmissible A) where
  -- no lesser letter shortens it
  pub first-least : (t : ℕ) (x : List ℕ) → IsElement A (t ∷ x) → (s : ℕ) → IsLeftDescent A (t ∷ x) s → s < t → ⊥
  first-least t x e s d less = none-before_normal_form A g same (rw e.normal (IsBefore-head s t (normal_form A (s ∷ t ∷ x)) x long less))
    where
      same : SameElement A (s ∷ normal_form A (s ∷ t ∷ x)) (t ∷ x)
      same = same-trans A g (same-cons A g s (normal_form-same A g (s ∷ t ∷ x))) (same-square A g s (t ∷ x))

      long : length (normal_form A (s ∷ t ∷ x)) ≡ length x
      long = omega (arith, d, cons-word_length A g s (t ∷ x), word_length-is A (t ∷ x), word_length-is A (s ∷ t ∷ x), ap length e.normal)
