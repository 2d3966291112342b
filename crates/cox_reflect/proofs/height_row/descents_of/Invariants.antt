-- The letters found so far are those before the next whose heights are negative.
use Rattle.std.proofs.Common.{◌≡◌, ◌-◌}
use Rattle.cox_reflect.proofs.LetterLists.{negative_letters}
use Rattle.cox_reflect.proofs.height_row.descents_of.Given as goal

abbrev pub invariant-loop-letter : goal.invariant-loop-letter
invariant-loop-letter g l = l.found.items ≡ negative_letters (g.H.HeightRow.values l.heights) (l.letter - 1)
