-- Each sum fits, and the list has one more of the new sums.
use Rattle.std.proofs.Common.{◌≡◌, ◌+◌, ◌+ℤ◌, ◌*ℤ◌, arith, rules, FitsSigned, w64}
use Rattle.std.specs.Int.{w128}
use Rattle.std.proofs.lemmas.Int.{ints, to_z-of_z}
use Rattle.cox_poly.specs.Polynomial.{coefficient}
use Rattle.cox_poly.proofs.AddedMultiples.{Added-more, Added-room}
use Rattle.cox_poly.proofs.accumulator.add_into.Goals as goal

-- the sum that is written fits, and is what it says
new_sum : (c : goal.After-sums-1) → FitsSigned w128 (coefficient c.loop-i.sums (c.args.shift + c.loop-i.i) +ℤ c.product.result)
    × (c.product.result ≡ c.args.factor *ℤ coefficient c.args.coefficients.now c.loop-i.i)
new_sum c =
    let factor_fits : FitsSigned w64 c.args.factor = c.ranges.factor in
    let entry_fits : FitsSigned w64 (coefficient c.args.coefficients.now c.loop-i.i) = search rules in
    let product = simp to_z-of_z at c.product.ensures in
    let room = Added-room _ _ _ _ _ _ (simp to_z-of_z at c.loop-i.invariant) c.requires.room in
    (rw product room, product)

pub overflow_add-sums-in-loop-i : goal.overflow_add-sums-in-loop-i
overflow_add-sums-in-loop-i c =
    let sum_fits : FitsSigned w128 (coefficient c.loop-i.sums (c.args.shift + c.loop-i.i)) = search rules in
    let product_fits : FitsSigned w128 c.product.result = search rules in
    simp to_z-of_z (new_sum c).0

pub loop-i-preserved : goal.loop-i-preserved
loop-i-preserved c =
    let factor_fits : FitsSigned w64 c.args.factor = c.ranges.factor in
    let sum_fits : FitsSigned w128 (coefficient c.loop-i.sums (c.args.shift + c.loop-i.i)) = search rules in
    let product_fits : FitsSigned w128 c.product.result = search rules in
    let new_fits = (new_sum c).0 in
    let product = (new_sum c).1 in
    simp to_z-of_z (Added-more _ _ _ _ _ _ _ (simp to_z-of_z at c.loop-i.invariant) (omega arith) (omega (arith, ints)))
