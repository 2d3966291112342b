-- The letters so far are right descents.
use Rattle.std.proofs.Common.{ℕ, ◌<◌}
use Rattle.std.specs.Prelude.{IsBitSet}
use Rattle.cox_inverse.proofs.finite.longest_member.Given as goal

abbrev pub invariant-loop-r : goal.invariant-loop-r
invariant-loop-r l = (k : ℕ) → k < l.r → IsBitSet l.descents k
