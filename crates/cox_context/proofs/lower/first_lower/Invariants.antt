-- No letter so far has an entry.
use Rattle.std.proofs.Common.{◌≡◌, ℕ, ◌<◌, None}
use Rattle.cox_base.specs.Matrix.{IsLetter}
use Rattle.cox_context.specs.Shifts.{entry}
use Rattle.cox_context.proofs.lower.first_lower.Given as goal

abbrev pub invariant-loop-t : goal.invariant-loop-t
invariant-loop-t l = (q : ℕ) → IsLetter l.rank q → q < l.t → entry l.rank l.lower q 0 ≡ None
