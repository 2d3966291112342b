-- The proof of `place_of_label`.
use Rattle.std.proofs.Common.{◌≡◌, ◌-◌, ◌+◌, arith, rules}
use Rattle.cox_base.specs.Matrix.{labels_before, place}
use Rattle.cox_base.proofs.LabelPlaces.{labels_before-limit, labels_before-next, place-within}
use Rattle.cox_base.proofs.coxeter.place_of_label.Goals as goal

pub loop-row-init : goal.loop-row-init
unfolding labels_before
loop-row-init c = search rules

pub overflow_add-before : goal.overflow_add-before
overflow_add-before c = omega (arith, labels_before-limit c.args.rank (c.loop-row.row - 1) c.requires.limit)

pub loop-row-preserved : goal.loop-row-preserved
loop-row-preserved c =
    let next = labels_before-next c.args.rank c.loop-row.row (omega arith) in
    let row : c.loop-row.row + 1 - 1 ≡ c.loop-row.row = omega arith in
    rw row (omega arith)

pub overflow_add-result : goal.overflow_add-result
overflow_add-result c = omega (arith, labels_before-limit c.args.rank (c.loop-row.row - 1) c.requires.limit)

pub returns-clause-place : goal.returns-clause-place
unfolding place
returns-clause-place c =
    let last : c.loop-row.row ≡ c.args.s = omega arith in
    let before = rw last at c.loop-row.invariant in
    omega arith

pub returns-clause-within : goal.returns-clause-within
returns-clause-within c =
    omega (
      arith,
      returns-clause-place c,
      place-within c.args.rank c.args.s c.args.t c.requires.from_one c.requires.rising
          c.requires.to_rank,
    )
