-- The letters before s have their shifts.
use Rattle.std.proofs.Common.{◌<◌, ℕ, IsSome}
use Rattle.cox_base.specs.Matrix.{IsLetter}
use Rattle.cox_context.specs.Shifts.{entry}
use Rattle.cox_context.proofs.builder.lacks_shift.Given as goal

abbrev pub invariant-loop-s : goal.invariant-loop-s
invariant-loop-s l = (q : ℕ) → IsLetter l.rank q → q < l.s → IsSome (entry l.rank l.table q l.i)
