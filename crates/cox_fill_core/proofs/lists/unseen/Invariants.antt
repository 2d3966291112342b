-- There is a list without marks for each actor so far.
use Rattle.std.proofs.Common.{◌≡◌, false, replicate}
use Rattle.cox_fill_core.proofs.lists.unseen.Given as goal

abbrev pub invariant-loop : goal.invariant-loop
invariant-loop l = l.seen.items ≡ replicate l.counter (replicate l.rows false)
