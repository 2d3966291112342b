-- What is known while members are appended to a context.
use Rattle.std.specs.Prelude.{◌≡◌, ◌⊎◌, ℕ, zero, suc, ◌<◌, ◌≤◌, List, [], ◌∷◌, ◌++◌, length, Contains}
use Rattle.cox_base.specs.Matrix.{CoxeterMatrix, IsWord}
use Rattle.cox_base.specs.IntegerMatrix.{integer_matrix}
use Rattle.cox_base.specs.ShortLex.{normal_form}
use Rattle.cox_base.specs.Reduced.{IsReduced}
use Rattle.cox_base.specs.Bruhat.{IsBelow}
use Rattle.cox_base.specs.Members.{IsElement}
use Rattle.cox_base.specs.declared.limits.TheConstants.{MAX_LETTERS}
use Rattle.cox_context.specs.declared.members.TheConstants.{MAX_MEMBERS}
use Rattle.cox_context.specs.Closed.{IsClosed}
use Rattle.cox_context.specs.Numbers.{word_at}

-- a reduced word, not too long
pub record IsTopWord (c : CoxeterMatrix) (top : List ℕ) : Type 0 where
  pub word : IsWord c.rank top
  pub reduced : IsReduced (integer_matrix c) top
  pub short : length top ≤ MAX_LETTERS

-- a word without its letter at a place, from 0
unfoldable pub without_letter : ℕ → List ℕ → List ℕ
without_letter k [] = []
without_letter zero (s ∷ w) = w
without_letter (suc k) (s ∷ w) = s ∷ without_letter k w

-- s x is no member, for the member x with the number j, but each element below it is, and so it may be the next one
pub record IsNextMember (c : CoxeterMatrix) (words : List (List ℕ)) (s j : ℕ) : Type 0 where
  pub none : Contains words (normal_form (integer_matrix c) (s ∷ word_at words j)) → ⊥
  pub below : (z : List ℕ) → IsElement (integer_matrix c) z
      → IsBelow (integer_matrix c) z (normal_form (integer_matrix c) (s ∷ word_at words j))
      → Contains words z ⊎ (normal_form (integer_matrix c) (s ∷ word_at words j) ≡ z)
  pub closed : length words < MAX_MEMBERS
      → IsClosed (integer_matrix c) (words ++ normal_form (integer_matrix c) (s ∷ word_at words j) ∷ [])
