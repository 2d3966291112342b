-- The numbers so far are those of members.
use Rattle.std.proofs.Common.{length}
use Rattle.cox_row.specs.Rising.{AreWithin}
use Rattle.cox_answers.proofs.row_maker.missing_members.Given as goal

abbrev pub invariant-loop-i : goal.invariant-loop-i
invariant-loop-i l = AreWithin (length l.rows.elements.members) l.missing.items
