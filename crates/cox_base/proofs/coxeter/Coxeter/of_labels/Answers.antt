-- The proof of `Coxeter::of_labels`.
use Rattle.std.proofs.Common.{slice_index}
use Rattle.cox_base.proofs.RefusedLabels.{IsFirstBad-at, is_label-false}
use Rattle.cox_base.proofs.coxeter.Coxeter.of_labels.Goals as goal

pub returns-in_default-clause-fault : goal.returns-in_default-clause-fault
returns-in_default-clause-fault c =
    let place = c.loop-place.place in
    IsFirstBad-at c.args.labels.now place c.loop-place-test.true c.loop-place.invariant.1
    (is_label-false (slice_index c.args.labels.now place) c.admitted.result c.admitted.ensures c.in_default.is)
