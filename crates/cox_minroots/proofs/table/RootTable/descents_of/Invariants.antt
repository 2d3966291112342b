-- The right descents before s are found.
use Rattle.std.proofs.Common.{◌≡◌, ◌-◌}
use Rattle.cox_base.specs.IntegerMatrix.{integer_matrix}
use Rattle.cox_minroots.proofs.ExchangeForms.{descents_to}
use Rattle.cox_minroots.proofs.table.RootTable.descents_of.Given as goal

abbrev pub invariant-loop-s : goal.invariant-loop-s
invariant-loop-s l = l.found.items ≡ descents_to (integer_matrix l.fn.self) l.v.items (l.s - 1)
