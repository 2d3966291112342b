-- What a guard reads.
use Rattle.cox_rowcell.specs.Place.{Place}
use Rattle.cox_rowcell.specs.declared.cell.RowGuard.{RowGuard}

-- what row the guard's cell is for
abbrev pub place_of_guard : RowGuard → Place
place_of_guard guard = guard.claim.tag
