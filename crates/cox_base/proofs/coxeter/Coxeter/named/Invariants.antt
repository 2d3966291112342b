-- What the loop of `Coxeter::named` keeps.
use Rattle.std.proofs.Common.{◌≡◌, ◌-◌}
use Rattle.cox_base.specs.NamedType.{rows_above, type_label}
use Rattle.cox_base.proofs.coxeter.Coxeter.named.Given as goal

abbrev pub invariant-loop-s : goal.invariant-loop-s
invariant-loop-s l = l.labels.items ≡ rows_above l.rank (type_label l.letter l.n) (l.s - 1)
