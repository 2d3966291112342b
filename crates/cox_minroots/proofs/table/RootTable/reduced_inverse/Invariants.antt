-- The letters that were read, the last of the word first, are multiplied.
use Rattle.std.proofs.Common.{map}
use Rattle.cox_base.specs.IntegerMatrix.{integer_matrix}
use Rattle.cox_minroots.proofs.ReducedProducts.{IsMultiplied}
use Rattle.cox_minroots.proofs.table.RootTable.reduced_inverse.Given as goal

abbrev pub invariant-loop-s : goal.invariant-loop-s
invariant-loop-s l = IsMultiplied (integer_matrix l.fn.self) (map (λ x. x.now) l.yielded) l.v.items
