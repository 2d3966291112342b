-- The letters of the set before s.
use Rattle.std.proofs.Common.{◌≡◌, ◌-◌}
use Rattle.cox_context.proofs.LetterSets.{letters_before}
use Rattle.cox_context.proofs.descents.letters_of.Given as goal

abbrev pub invariant-loop-s : goal.invariant-loop-s
invariant-loop-s l = l.found.items ≡ letters_before l.set (l.s - 1)
