-- The polynomials that are added up for one row more.
use Rattle.std.proofs.Common.{◌≡◌, ◌≢◌, ℕ, arith}
use Rattle.cox_context.specs.Closed.{Elements}
use Rattle.cox_row_symmetry.specs.ImagesAtHand.{IsMadeByStep}
use Rattle.cox_row_builder.specs.Counted.{counted}
use Rattle.cox_klstep.specs.CountedSteps.{IsWithinSteps, IsCounted}
use Rattle.cox_rows.specs.Holding.{Holding, HasRow}
use Rattle.cox_rows.specs.CountedRows.{AreRowsCounted}
use Rattle.cox_rows.proofs.CountedRows.{counted-one}

module _ (e : Elements) (i old more new : ℕ) (is : new ≡ counted old more) where
  steps-added : (more ≡ 0 → new ≡ old) → IsWithinSteps e i 0 more → IsWithinSteps e i old new
  steps-added none h = record {
    identity = λ z. none (h.identity z);
    few = λ s numbers least are extremal all. let few = h.few s numbers least are extremal all in omega (arith, few, is);
  }

  counted-added : IsCounted e i 0 more → IsCounted e i old new
  counted-added h extremal all = let some = h extremal all in omega (arith, some, is)

-- the row of the member i was made from a, and what it took was added to the count: so d was left
module _ (i more : ℕ) (a d : Holding) (is : d.steps ≡ counted a.steps more) where
  pub steps-over : (more ≡ 0 → d.steps ≡ a.steps) → IsWithinSteps a.elements i 0 more → IsWithinSteps a.elements i a.steps d.steps
  steps-over = steps-added a.elements i a.steps more d.steps is

  pub counted-over : (IsMadeByStep a.elements (HasRow a) i → IsCounted a.elements i 0 more) → IsMadeByStep a.elements (HasRow a) i
      → IsCounted a.elements i a.steps d.steps
  counted-over made by_step = counted-added a.elements i a.steps more d.steps is (made by_step)

  pub rows-over : ((j : ℕ) → j ≢ i → HasRow d j → HasRow a j) → ((j : ℕ) → HasRow a j → HasRow d j)
      → (HasRow d i → (HasRow a i → ⊥) → IsMadeByStep a.elements (HasRow a) i → IsCounted a.elements i 0 more) → AreRowsCounted a d
  rows-over others kept made = counted-one a d i others kept (omega (arith, is))
      (λ there before by_step. counted-added a.elements i a.steps more d.steps is (made there before by_step))
