-- Families of polynomials that are given to rows as they are published.
use Rattle.std.specs.Prelude.{◌≡◌, ◌⊎◌, ℕ, ◌<◌, List, [], ◌∷◌, Contains, All}
use Rattle.cox_base.specs.declared.side.Side.TheVariants.{Left}
use Rattle.cox_base.specs.IntegerMatrix.{integer_matrix}
use Rattle.cox_base.specs.Admissible.{IsAdmissible}
use Rattle.cox_base.specs.Element.{SameElement}
use Rattle.cox_reflect.specs.LeastDescent.{IsLeastLeftDescent}
use Rattle.cox_poly.specs.Multiples.{minus}
use Rattle.cox_hecke.specs.Family.{Family}
use Rattle.cox_hecke.specs.Row.{IsRow}
use Rattle.cox_hecke.specs.StepFamily.{step, Correction, AreCorrections, correction_sum}
use Rattle.cox_context.specs.Closed.{Elements}
use Rattle.cox_context.specs.Numbers.{word_at}
use Rattle.cox_fill_core.specs.declared.event.RowState.{RowState}
use Rattle.cox_fill_core.specs.declared.event.Event.{Event}
use Rattle.cox_fill_core.specs.Laws.{reached}

-- a row that needs a row has a greater number
abbrev pub NeedsSmaller : (ℕ → List ℕ) → Type 0
NeedsSmaller needs = (i j : ℕ) → Contains (needs i) j → j < i

-- the family given to row i is the step family of its element w by the least left descent s, over families given to rows that it needs:
-- those of v = sw and of the corrections of the step
pub record IsGivenByStep (e : Elements) (needs : ℕ → List ℕ) (given : ℕ → Family) (i : ℕ) : Type 0 where
  pub letter : ℕ
  pub least : IsLeastLeftDescent (integer_matrix e.matrix) (word_at e.members i) letter
  -- the number of v
  pub lower : ℕ
  pub lower_needed : Contains (needs i) lower
  pub lower_is : SameElement (integer_matrix e.matrix) (word_at e.members lower) (letter ∷ word_at e.members i)
  -- the corrections, and the number of each
  pub list : List Correction
  pub corrections : AreCorrections Left (integer_matrix e.matrix) letter (letter ∷ word_at e.members i) list
  pub number : List ℕ → ℕ
  pub numbers_needed : All (λ c. Contains (needs i) (number c.element)) list
  pub numbers_are : All (λ c. SameElement (integer_matrix e.matrix) (word_at e.members (number c.element)) c.element) list
  pub value : (x : List ℕ) (k : ℕ) → given i x k
      ≡ minus (step Left (integer_matrix e.matrix) letter (given lower) x)
      (correction_sum (integer_matrix e.matrix) (word_at e.members i) (λ u. given (number u)) list x) k

-- the family given to the row of the identity is its row, and that given to any other row is the step family
abbrev pub IsFamilyGiven : Elements → (ℕ → List ℕ) → (ℕ → Family) → ℕ → Type 0
IsFamilyGiven e needs given i =
    ((word_at e.members i ≡ []) × IsRow (integer_matrix e.matrix) [] (given i)) ⊎ IsGivenByStep e needs given i

-- after any events, where each Published row was given such a family, each of these families is the row of its element
abbrev pub GivesRows : (ℕ → List ℕ) → Type 0
GivesRows needs = (e : Elements) → IsAdmissible (integer_matrix e.matrix) → (events : List Event) (given : ℕ → Family)
    → ((i : ℕ) → (reached needs events).state i ≡ RowState.Published → IsFamilyGiven e needs given i)
    → (i : ℕ) → (reached needs events).state i ≡ RowState.Published → IsRow (integer_matrix e.matrix) (word_at e.members i) (given i)
