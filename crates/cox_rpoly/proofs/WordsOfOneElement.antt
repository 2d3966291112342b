-- Elements: when two words of one have the same descents, and the identity.
use Rattle.std.proofs.Common.{◌≡◌, ℕ, List, [], length, ap, ◌∙◌, arith}
use Rattle.cox_base.specs.IntegerMatrix.{IntegerMatrix}
use Rattle.cox_base.specs.Admissible.{IsAdmissible}
use Rattle.cox_base.specs.Length.{word_length}
use Rattle.cox_base.specs.Descents.{IsLeftDescent}
use Rattle.cox_base.specs.Bruhat.{IsBelow}
use Rattle.cox_reflect.proofs.Bruhat.{below-length}
use Rattle.cox_reflect.proofs.Lengths.{word_length-is}
use Rattle.cox_reflect.proofs.NormalForm.{normal_form-no_descent}
use Rattle.cox_reflect.proofs.Search.{word_length-length}
use Rattle.cox_rpoly.specs.ElementValues.{Naming}

-- the words of an element have the same descents
abbrev pub SameDescents : {X : Type 0} → Naming X → IntegerMatrix → Type 0
SameDescents {X} of A = (u v : List ℕ) (x : X) → of A u x → of A v x → (t : ℕ) → IsLeftDescent A u t → IsLeftDescent A v t

-- the element of a word that is below the identity is the identity
pub below_identity-length : {X : Type 0} (of : Naming X) (A : IntegerMatrix) (g : IsAdmissible A) → SameDescents of A
    → (w : List ℕ) (x : X) → of A w x → IsBelow A w [] → (u : List ℕ) → of A u x → word_length A u ≡ 0
below_identity-length of A g descents w x a b u e =
    let none : (t : ℕ) → IsLeftDescent A u t
    → ⊥ = λ t d. omega (arith, descents u w x e a t d, below-length A g b, word_length-length A g [])
    in word_length-is A u ∙ ap (λ (n : List ℕ). length n) (normal_form-no_descent A g u none)
