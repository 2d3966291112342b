-- Bruhat order, by subwords (Humphreys 5.10).
use Rattle.std.specs.Prelude.{ℕ, List, [], ◌∷◌}
use Rattle.cox_base.specs.IntegerMatrix.{IntegerMatrix}
use Rattle.cox_base.specs.Element.{SameElement}
use Rattle.cox_base.specs.ShortLex.{normal_form}

-- v is what is left of w when some of its letters are left out
pub data IsSubword : List ℕ → List ℕ → Type 0 where
  none : IsSubword [] []
  kept : {s : ℕ} {v w : List ℕ} → IsSubword v w → IsSubword (s ∷ v) (s ∷ w)
  left_out : {s : ℕ} {v w : List ℕ} → IsSubword v w → IsSubword v (s ∷ w)

-- y ≤ w: some subword of the normal form of w names the element of y
pub record IsBelow (A : IntegerMatrix) (y w : List ℕ) : Type 0 where
  pub word : List ℕ
  pub subword : IsSubword word (normal_form A w)
  pub same : SameElement A word y
