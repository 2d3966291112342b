-- Each of those that were found has its letters.
use Rattle.std.specs.Prelude.{All}
use Rattle.cox_command.specs.ParseContract.{HasLetters}
use Rattle.cox_shell.proofs.prefetch.inquiries_of.Given as goal

abbrev pub invariant-each : goal.invariant-each
invariant-each l = All (HasLetters l.rank) l.inquiries.items

abbrev pub invariant-lines : goal.invariant-lines
invariant-lines l = All (HasLetters l.rank) l.inquiries.items
