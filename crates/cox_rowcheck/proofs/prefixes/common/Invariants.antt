-- The letters so far are the same.
use Rattle.std.proofs.Common.{◌≡◌, take}
use Rattle.cox_rowcheck.proofs.prefixes.common.Given as goal

abbrev pub invariant-loop-i : goal.invariant-loop-i
invariant-loop-i l = take l.i l.last ≡ take l.i l.word
