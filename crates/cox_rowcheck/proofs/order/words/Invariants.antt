-- The members so far.
use Rattle.std.proofs.Common.{◌≡◌, map, take}
use Rattle.cox_rowcheck.specs.Prefixes.{letters_of}
use Rattle.cox_rowcheck.proofs.order.words.Given as goal

abbrev pub invariant-loop-i : goal.invariant-loop-i
invariant-loop-i l = map letters_of l.words.items ≡ take l.i l.ctx.members
