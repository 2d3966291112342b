-- The sum of the products for the letters before t.
use Rattle.std.proofs.Common.{◌≡◌, ◌-◌, ◌*ℤ◌}
use Rattle.cox_base.specs.IntegerMatrix.{entry_of}
use Rattle.cox_base.specs.Element.{sum_to}
use Rattle.cox_reflect.specs.RootHeight.{at_letter}
use Rattle.cox_reflect.proofs.coordinates.pairing.Given as goal

abbrev pub invariant-loop-t : goal.invariant-loop-t
invariant-loop-t l = l.sum ≡ sum_to (l.t - 1) (λ t. entry_of l.g l.s t *ℤ at_letter l.v t)
