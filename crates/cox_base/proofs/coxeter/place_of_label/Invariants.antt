-- What the loop of `place_of_label` keeps.
use Rattle.std.proofs.Common.{◌≡◌, ◌-◌}
use Rattle.cox_base.specs.Matrix.{labels_before}
use Rattle.cox_base.proofs.coxeter.place_of_label.Given as goal

abbrev pub invariant-loop-row : goal.invariant-loop-row
invariant-loop-row l = l.before ≡ labels_before l.rank (l.row - 1)
