-- The digits so far are the same.
use Rattle.std.proofs.Common.{◌≡◌, take}
use Rattle.cox_polyread.proofs.term_reading.is_below.Given as goal

abbrev pub invariant-loop-i : goal.invariant-loop-i
invariant-loop-i l = take l.i l.a ≡ take l.i l.b
