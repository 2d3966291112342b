-- One sum more is in the list.
use Rattle.std.proofs.Common.{◌≡◌, take, pos, refl, rules, FitsSigned, w64}
use Rattle.std.specs.Int.{w128}
use Rattle.std.proofs.lemmas.Int.{to_z-of_z}
use Rattle.std.proofs.lemmas.List.{take_more}
use Rattle.cox_poly.specs.Polynomial.{coefficient}
use Rattle.cox_poly.proofs.accumulator.narrowed_list.Goals as goal

pub narrowed-requires : goal.narrowed-requires
narrowed-requires c =
    let sum_fits : FitsSigned w128 (coefficient c.args.sums.now c.loop-sum.sum-index) = search rules in
    simp to_z-of_z (c.requires c.loop-sum.sum-index)

pub loop-sum-preserved : goal.loop-sum-preserved
loop-sum-preserved c =
    let sum_fits : FitsSigned w128 (coefficient c.args.sums.now c.loop-sum.sum-index) = search rules in
    let value_fits : FitsSigned w64 c.narrowed.result = search rules in
    let so_far : c.loop-sum.items.items ≡ take c.loop-sum.sum-index c.args.sums.now = c.loop-sum.invariant in
    let value = simp to_z-of_z at c.narrowed.ensures in
    let pushed = simp to_z-of_z at c.in_ok-push.ensures.items in
    rw (pushed, so_far, value, take_more c.args.sums.now c.loop-sum.sum-index (pos 0) c.loop-sum-test.true) refl
