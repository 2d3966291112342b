-- All stays as it is, and the members so far are settled, unless one was left.
use Rattle.std.proofs.Common.{◌≡◌, ℕ, ◌<◌, true}
use Rattle.cox_rows.specs.Ensured.{IsSettled}
use Rattle.cox_rows.proofs.rows.Rows.settle_held.Given as goal

abbrev pub invariant-members : goal.invariant-members
invariant-members l = record {
  same : l.self ≡ l.fn.self;
  all : l.all ≡ true → (j : ℕ) → j < l.i → IsSettled l.self j;
}
