-- The values so far.
use Rattle.std.proofs.Common.{◌≡◌, ℕ, ◌<◌, ◌≤◌, take}
use Rattle.std.specs.Prelude.{unsigned_abs}
use Rattle.cox_row.specs.Mus.{value_at}
use Rattle.cox_row.specs.declared.row.TheConstants.{MU_LIMIT}
use Rattle.cox_row_builder.proofs.builder.narrow.Given as goal

abbrev pub invariant-loop-k : goal.invariant-loop-k
invariant-loop-k l = record {
  same : l.narrowed.items ≡ take l.k l.value-items;
  small : (j : ℕ) → j < l.k → unsigned_abs (value_at l.value-items j) ≤ MU_LIMIT;
}
