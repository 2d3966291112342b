-- What the polynomials of a row come from.
use Rattle.std.specs.Prelude.{◌≡◌, ℕ, ◌+◌, List, length}
use Rattle.std.specs.Borrow.{Bor}
use Rattle.std.specs.Arc.{arc_value}
use Rattle.cox_context.specs.Closed.{Elements}
use Rattle.cox_row.specs.declared.row.Row.{Row}
use Rattle.cox_row.specs.RowOf.{IsRowAt}
use Rattle.cox_row.specs.Index.{IsIndexOf}
use Rattle.cox_klstep.specs.StepOf.{IsRowStep, AreNeeded}
use Rattle.cox_klstep.specs.declared.step.Step.{Step}
use Rattle.cox_klstep.specs.declared.sums.Source.{Source}

-- the row of the member i can be made by a step, from the row of the shorter element with its index, and from those of the corrections
pub record IsMadeFrom (e : Elements) (i : ℕ) (by_step : Step) (shorter : Row) (entries : List ℕ) (others : List (Bor Row)) : Type 0 where
  pub member : by_step.member ≡ i
  pub step : IsRowStep e by_step
  pub lower : IsRowAt e by_step.lower shorter
  pub index : IsIndexOf (arc_value shorter.values).extremal.items entries
  pub needed : AreNeeded e by_step.corrections.items others

-- the same for a step and rows that stand together
abbrev pub IsSource : Elements → ℕ → Source → Type 0
IsSource e i source = IsMadeFrom e i source.step.now source.lower.now source.index.now source.needed.now

-- how many polynomials are added up at a member
abbrev pub source_cost : Source → ℕ
source_cost source = 2 + length source.step.now.corrections.items
