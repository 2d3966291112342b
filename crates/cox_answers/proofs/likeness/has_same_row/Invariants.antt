-- The labels of s and the letters so far are the same.
use Rattle.std.proofs.Common.{◌≡◌, ℕ, ◌<◌}
use Rattle.cox_base.specs.Matrix.{label}
use Rattle.cox_answers.proofs.likeness.has_same_row.Given as goal

abbrev pub invariant-loop-t : goal.invariant-loop-t
invariant-loop-t l = (r : ℕ) → l.s < r → r < l.t → label l.one l.s r ≡ label l.other l.s r
