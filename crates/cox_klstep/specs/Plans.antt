-- The plan of a row.
use Rattle.std.specs.Prelude.{ℕ, ◌+◌, length, pos, ◌≤ℤ◌}
use Rattle.cox_context.specs.Closed.{Elements}
use Rattle.cox_row.specs.declared.row.Row.{Row}
use Rattle.cox_klstep.specs.LoweredTo.{IsLoweredBy}
use Rattle.cox_klstep.specs.SourceOf.{IsMadeFrom}
use Rattle.cox_klstep.specs.declared.plan.RowPlan.{RowPlan}
use Rattle.cox_klstep.specs.declared.plan.RowStart.{RowStart}
use Rattle.cox_klstep.specs.declared.plan.RowStart.TheVariants.{Done, Planned}
use Rattle.cox_klstep.specs.declared.tables.Tables.{Tables}

-- the row of the plan's member can be made by its step, from its rows; and the tables are laid out for that, with the index of the row of
-- the shorter element and the extremal members below that one
pub record IsPlan (e : Elements) (tables : Tables) (plan : RowPlan) : Type 0 where
  pub source : IsMadeFrom e plan.step.member plan.step plan.lower.now tables.index plan.needed.items
  pub lowered : IsLoweredBy e plan.step.member plan.step tables.lowered
  pub limit : pos 0 ≤ℤ plan.limit

-- how many polynomials are added up at a member
abbrev pub plan_cost : RowPlan → ℕ
plan_cost plan = 2 + length plan.step.corrections.items

-- the row that was made at once
abbrev pub IfDone : RowStart → (Row → Type 0) → Type 0
IfDone (Done row) P = P row
IfDone (Planned plan) P = Unit {0}

-- the plan, where the row is still to be made
abbrev pub IfPlanned : RowStart → (RowPlan → Type 0) → Type 0
IfPlanned (Done row) P = Unit {0}
IfPlanned (Planned plan) P = P plan
