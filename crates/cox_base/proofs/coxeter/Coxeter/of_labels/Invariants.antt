-- What the loop of `Coxeter::of_labels` keeps.
use Rattle.std.proofs.Common.{◌≡◌, ℕ, ◌<◌, take, slice_index, true}
use Rattle.cox_base.specs.Matrix.{is_label}
use Rattle.cox_base.proofs.coxeter.Coxeter.of_labels.Given as goal

abbrev pub invariant-loop-place : goal.invariant-loop-place
invariant-loop-place l =
    (l.own.items ≡ take l.place l.labels) × ((k : ℕ) → k < l.place → is_label (slice_index l.labels k) ≡ true)
