-- The member w whose row is made: its descents, and the shifts sw and ws that are shorter.
use Rattle.std.specs.Prelude.{◌≡◌, ◌⊎◌, ℕ, ◌<◌, ◌≤◌, List, [], ◌∷◌, ◌++◌, length, Option, None, Some}
use Rattle.cox_base.specs.Matrix.{IsLetter}
use Rattle.cox_base.specs.IntegerMatrix.{IntegerMatrix, integer_matrix}
use Rattle.cox_base.specs.Element.{SameElement}
use Rattle.cox_context.specs.Closed.{Elements}
use Rattle.cox_context.specs.Numbers.{word_at}
use Rattle.cox_row.specs.LetterSets.{AreLeftDescents, AreRightDescents}
use Rattle.cox_row_builder.specs.declared.target.Target.{Target}

-- the member with its descents
pub record IsTarget (e : Elements) (target : Target) : Type 0 where
  pub within : target.member < length e.members
  pub left : AreLeftDescents (integer_matrix e.matrix) (word_at e.members target.member) target.left
  pub right : AreRightDescents (integer_matrix e.matrix) (word_at e.members target.member) target.right

-- u is sw or ws
pub record IsShift (A : IntegerMatrix) (w u : List ℕ) : Type 0 where
  pub s : ℕ
  pub letter : IsLetter A.rank s
  pub either : SameElement A u (s ∷ w) ⊎ SameElement A u (w ++ s ∷ [])

-- the least number from a given one on of a shift of the member i that comes before it; i where there is none
pub record IsLeastShift (A : IntegerMatrix) (members : List (List ℕ)) (i start least : ℕ) : Type 0 where
  pub bound : least ≤ i
  pub from : least < i → start ≤ least
  pub shift : least < i → IsShift A (word_at members i) (word_at members least)
  pub none : (k : ℕ) → start ≤ k → k < least → ¬ IsShift A (word_at members i) (word_at members k)

-- of a shift and the least number so far, the lesser one from a given number on
abbrev pub IsLeastOf : Option ℕ → ℕ → ℕ → ℕ → Type 0
IsLeastOf None from old least = least ≡ old
IsLeastOf (Some k) from old least = ((from ≤ k) × (k < old) × (least ≡ k)) ⊎ ((least ≡ old) × ((k < from) ⊎ (old ≤ k)))
