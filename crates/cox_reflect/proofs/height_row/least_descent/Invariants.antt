-- No letter before s has a negative height.
use Rattle.std.proofs.Common.{ℕ, ◌≤◌, ◌<◌, pos, ◌≤ℤ◌}
use Rattle.cox_reflect.specs.RootHeight.{at_letter}
use Rattle.cox_reflect.proofs.height_row.least_descent.Given as goal

abbrev pub invariant-loop-s : goal.invariant-loop-s
invariant-loop-s g l = (t : ℕ) → 1 ≤ t → t < l.s → pos 0 ≤ℤ at_letter (g.H.HeightRow.values l.heights) t
