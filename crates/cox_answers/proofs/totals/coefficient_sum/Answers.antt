-- The proof of `coefficient_sum`.
use Rattle.std.proofs.Common.{◌≡◌, ◌+◌, ◌*◌, ◌^◌, ◌≤◌, ◌+ℤ◌, map, sym, ◌∙◌, unsigned_abs, arith, rules, FitsSigned, w64}
use Rattle.std.specs.Int.{w128}
use Rattle.std.proofs.lemmas.Int.{ints, to_z-of_z, fits_signed_from_abs}
use Rattle.cox_poly.specs.Polynomial.{coefficient}
use Rattle.std.specs.List.{range_with_len}
use Rattle.cox_replies.specs.Totals.{sum_of}
use Rattle.cox_replies.proofs.PolynomialTotals.{sum_of-more}
use Rattle.cox_answers.proofs.totals.coefficient_sum.Goals as goal

pub loop-k-preserved : goal.loop-k-preserved
loop-k-preserved c =
    let k = c.loop-k.k in
    let entry : FitsSigned w64 c.coefficient.result = search rules in
    let same : c.from-sum.result ≡ c.coefficient.result = simp to_z-of_z at c.from-sum.ensures in
    let bound : unsigned_abs (c.loop-k.sum +ℤ c.from-sum.result) ≤ (k + 1) * 2 ^ 63 =
    rw same (omega (arith, ints, c.loop-k.invariant.small, c.coefficient.type_inv)) in
    let fits : FitsSigned w128 (c.loop-k.sum +ℤ c.from-sum.result) = fits_signed_from_abs w128 _
    (omega (arith, bound, c.loop-k-test.true, c.requires)) in
    let value : c.loop-k.sum +ℤ c.from-sum.result ≡ sum_of (map (coefficient c.args.polynomial.now) (range_with_len 0 (k + 1))) =
    rw (same, c.coefficient.ensures, sym c.loop-k.sum-is ∙ c.loop-k.invariant.sum)
    (sym (sum_of-more (coefficient c.args.polynomial.now) k)) in
    let from_fits : FitsSigned w128 c.from-sum.result = search rules in
    rw c.loop-k.sum-is (simp to_z-of_z (record { sum = value; small = bound }))
