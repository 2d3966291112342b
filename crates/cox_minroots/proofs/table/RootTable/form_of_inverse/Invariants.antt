-- The normal form begins with the letters so far.
use Rattle.std.proofs.Common.{length}
use Rattle.cox_base.specs.IntegerMatrix.{integer_matrix}
use Rattle.cox_minroots.proofs.ExchangeForms.{IsBegun}
use Rattle.cox_minroots.proofs.table.RootTable.form_of_inverse.Given as goal

abbrev pub invariant-loop-s : goal.invariant-loop-s
invariant-loop-s l = IsBegun (integer_matrix l.fn.self) l.fn.rest.items l.form.items l.rest.items

abbrev pub decreases-loop-s : goal.decreases-loop-s
decreases-loop-s l = length l.rest.items
