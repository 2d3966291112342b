-- The labels of the letters so far are the same.
use Rattle.std.proofs.Common.{◌≡◌, ℕ, ◌<◌, ◌≤◌}
use Rattle.cox_base.specs.Matrix.{label}
use Rattle.cox_answers.proofs.likeness.is_same_group.Given as goal

abbrev pub invariant-loop-s : goal.invariant-loop-s
invariant-loop-s l = (r t : ℕ) → 1 ≤ r → r < l.s → r < t → t ≤ l.one.rank → label l.one r t ≡ label l.other r t
