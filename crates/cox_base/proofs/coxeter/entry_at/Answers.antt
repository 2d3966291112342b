-- The proof of `entry_at`.
use Rattle.std.proofs.Common.{arith}
use Rattle.std.proofs.lemmas.Int.{ints, to_z-of_z}
use Rattle.cox_base.proofs.Entries.{entry_of-beyond, entry_of-diagonal, entry_of-above, entry_of-below}
use Rattle.cox_base.proofs.coxeter.entry_at.Goals as goal

pub returns-then-t-rank : goal.returns-then-t-rank
returns-then-t-rank c = grind (arith, entry_of-beyond)

pub returns-then-s-t : goal.returns-then-s-t
returns-then-s-t c = grind (arith, entry_of-diagonal)

pub returns-then-s-t-2 : goal.returns-then-s-t-2
returns-then-s-t-2 c = grind (arith, ints, to_z-of_z, entry_of-above)

pub returns-else-s-t-2 : goal.returns-else-s-t-2
returns-else-s-t-2 c = grind (arith, ints, to_z-of_z, entry_of-below)
