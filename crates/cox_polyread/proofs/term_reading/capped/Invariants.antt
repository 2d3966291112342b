-- The digits so far are read.
use Rattle.std.proofs.Common.{◌≡◌, ◌-◌, ◌^◌, take, min}
use Rattle.cox_polyread.specs.ReadNumerals.{value_of}
use Rattle.cox_polyread.proofs.term_reading.capped.Given as goal

abbrev pub invariant-loop-digit : goal.invariant-loop-digit
invariant-loop-digit l = l.value ≡ min (value_of (take l.digit-index l.digits)) (2 ^ 64 - 1)
