-- Elements as their normal forms.
use Rattle.std.proofs.Common.{◌≡◌, ℕ, List, length, ap, sym, ◌∙◌, subst}
use Rattle.cox_base.specs.Matrix.{IsWord}
use Rattle.cox_base.specs.IntegerMatrix.{IntegerMatrix}
use Rattle.cox_base.specs.Admissible.{IsAdmissible}
use Rattle.cox_base.specs.Element.{SameElement}
use Rattle.cox_base.specs.ShortLex.{normal_form}
use Rattle.cox_base.specs.Length.{word_length}
use Rattle.cox_base.specs.Members.{IsElement}
use Rattle.cox_reflect.proofs.Search.{normal_form-same, normal_form-equal, IsWord-normal_form}
use Rattle.cox_reflect.proofs.Lengths.{word_length-is}

module _ (A : IntegerMatrix) (g : IsAdmissible A) where
  pub element-normal_form : (u : List ℕ) → IsElement A (normal_form A u)
  element-normal_form u = record { normal = normal_form-equal A g (normal_form-same A g u) }

  -- a normal form is a word over the letters
  pub element-word : (u : List ℕ) → IsElement A u → IsWord A.rank u
  element-word u e = subst (IsWord A.rank) e.normal (IsWord-normal_form A g u)

  pub element-length : (u : List ℕ) → IsElement A u → word_length A u ≡ length u
  element-length u e = word_length-is A u ∙ ap length e.normal

  -- one element has one normal form
  pub element-unique : (u v : List ℕ) → IsElement A u → IsElement A v → SameElement A u v → u ≡ v
  element-unique u v e f same = sym e.normal ∙ normal_form-equal A g same ∙ f.normal
