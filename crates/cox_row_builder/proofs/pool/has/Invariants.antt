-- Where it is not found, it is none of those so far.
use Rattle.std.proofs.Common.{◌≡◌, ℕ, ◌+◌, ◌<◌, ◌≤◌, false}
use Rattle.cox_row.specs.Rising.{number_at}
use Rattle.cox_row_builder.proofs.pool.has.Given as goal

abbrev pub invariant-loop-k : goal.invariant-loop-k
invariant-loop-k l = l.found ≡ false → (j : ℕ) → l.start ≤ j → j < l.start + l.k → number_at l.prints j ≡ l.print → ⊥
