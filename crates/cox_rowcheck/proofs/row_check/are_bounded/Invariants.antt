-- The members so far meet the bound.
use Rattle.std.proofs.Common.{ℕ, ◌<◌}
use Rattle.cox_rpoly.specs.Terms.{numbered}
use Rattle.cox_rowcheck.specs.Conditions.{MeetsBound}
use Rattle.cox_rowcheck.proofs.row_check.are_bounded.Given as goal

abbrev pub invariant-loop-i : goal.invariant-loop-i
invariant-loop-i l = (j : ℕ) → j < l.i → MeetsBound l.ctx.members l.w j (numbered l.polynomials j)
