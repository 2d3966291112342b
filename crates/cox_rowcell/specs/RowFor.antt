-- The row that a cell is for.
use Rattle.cox_row.specs.declared.row.Row.{Row}
use Rattle.cox_row.specs.RowOf.{IsRowAt}
use Rattle.cox_row.specs.Within.{IsRowWithin}
use Rattle.cox_rowcell.specs.Place.{Place}

-- it is the row of the member, within the limits
pub record IsRowFor (p : Place) (row : Row) : Type 0 where
  pub is : IsRowAt p.elements p.member row
  pub within : IsRowWithin p.limit row
