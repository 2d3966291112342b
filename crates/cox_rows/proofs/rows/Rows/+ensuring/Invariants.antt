-- The recursion goes to smaller numbers. The members so far are settled.
use Rattle.std.proofs.Common.{◌+◌, ◌*◌}
use Rattle.cox_rows.proofs.EnsuredNeeds.{IsUnderWay}
use Rattle.cox_rows.proofs.rows.Rows.+ensuring.Given as goal

abbrev pub decreases-ensure_until : goal.decreases-ensure_until
decreases-ensure_until l = 3 * l.i + 2

abbrev pub decreases-ensure_lower : goal.decreases-ensure_lower
decreases-ensure_lower l = 3 * l.i + 1

abbrev pub decreases-ensure_each : goal.decreases-ensure_each
decreases-ensure_each l = 3 * l.i

abbrev pub invariant-ensure_each-each : goal.invariant-ensure_each-each
invariant-ensure_each-each l = IsUnderWay l.i l.fn.self l.self l.numbers l.u-index
