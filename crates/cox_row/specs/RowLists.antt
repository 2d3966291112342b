-- Lists with a row for some members, each at the place of its member's number.
use Rattle.std.specs.Prelude.{ℕ, List, Option, None, slice_index_or}
use Rattle.cox_row.specs.declared.row.Row.{Row}

-- the row at a place, if one is there
abbrev pub row_at : List (Option Row) → ℕ → Option Row
row_at rows i = slice_index_or rows i None
