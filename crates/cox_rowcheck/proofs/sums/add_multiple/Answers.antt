-- Each sum fits, and the list has one more of the new sums.
use Rattle.std.proofs.Common.{◌≡◌, ◌+◌, ◌+ℤ◌, ◌*ℤ◌, arith, rules, FitsSigned, w64}
use Rattle.std.specs.Int.{w128}
use Rattle.std.proofs.lemmas.Int.{ints, to_z-of_z}
use Rattle.cox_poly.specs.Polynomial.{coefficient}
use Rattle.cox_poly.proofs.AddedMultiples.{Added-more, Added-room}
use Rattle.cox_rowcheck.proofs.sums.add_multiple.Goals as goal

-- the sum that is written fits, and is what it says
new_sum : (c : goal.After-sum-1) → FitsSigned w128 (coefficient c.loop-k.sum (c.args.shift + c.loop-k.k) +ℤ c.wide_product.result)
    × (c.wide_product.result ≡ c.args.factor *ℤ coefficient c.args.r.now c.loop-k.k)
new_sum c =
    let factor_fits : FitsSigned w64 c.args.factor = c.ranges.factor in
    let entry_fits : FitsSigned w64 (coefficient c.args.r.now c.loop-k.k) = search rules in
    let product = simp to_z-of_z at c.wide_product.ensures in
    let room = Added-room _ _ _ _ _ _ (simp to_z-of_z at c.loop-k.invariant) c.requires.room in
    (rw product room, product)

pub overflow_add-sum-in-loop-k : goal.overflow_add-sum-in-loop-k
overflow_add-sum-in-loop-k c =
    let sum_fits : FitsSigned w128 (coefficient c.loop-k.sum (c.args.shift + c.loop-k.k)) = search rules in
    let product_fits : FitsSigned w128 c.wide_product.result = search rules in
    simp to_z-of_z (new_sum c).0

pub loop-k-preserved : goal.loop-k-preserved
loop-k-preserved c =
    let factor_fits : FitsSigned w64 c.args.factor = c.ranges.factor in
    let sum_fits : FitsSigned w128 (coefficient c.loop-k.sum (c.args.shift + c.loop-k.k)) = search rules in
    let product_fits : FitsSigned w128 c.wide_product.result = search rules in
    let new_fits = (new_sum c).0 in
    let product = (new_sum c).1 in
    simp to_z-of_z (Added-more _ _ _ _ _ _ _ (simp to_z-of_z at c.loop-k.invariant) (omega arith) (omega (arith, ints)))
