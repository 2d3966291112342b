-- What a cell may hold.
use Rattle.cox_rowcell.specs.declared.held.Held.{Held}
use Rattle.cox_rowcell.specs.Place.{Place}
use Rattle.cox_rowcell.specs.RowFor.{IsRowFor}

-- it is a row
abbrev pub IsRowHeld : Held → Type 0
IsRowHeld (Held.Nothing vacancy) = ⊥
IsRowHeld (Held.Row row) = Unit {0}

-- it is nothing, or the row of the place
abbrev pub FitsPlace : Place → Held → Type 0
FitsPlace p (Held.Nothing vacancy) = Unit {0}
FitsPlace p (Held.Row row) = IsRowFor p row
