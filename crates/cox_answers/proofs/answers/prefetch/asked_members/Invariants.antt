-- The numbers so far are those of members.
use Rattle.std.proofs.Common.{length}
use Rattle.cox_row.specs.Rising.{AreWithin}
use Rattle.cox_answers.proofs.answers.prefetch.asked_members.Given as goal

abbrev pub invariant-loop-inquiry : goal.invariant-loop-inquiry
invariant-loop-inquiry l = AreWithin (length l.rows.elements.members) l.numbers.items
