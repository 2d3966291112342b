-- Each term of p adds a multiple of r.
use Rattle.std.proofs.Common.{◌≡◌, ℕ, ◌+◌, ◌*◌, ◌^◌, List, ℤ, take, unsigned_abs, FitsSigned, w64, rules, arith}
use Rattle.std.proofs.lemmas.Int.{to_z-of_z}
use Rattle.cox_poly.specs.Polynomial.{coefficient, HasSmallCoefficients}
use Rattle.cox_rpoly.specs.declared.terms.TheConstants.{TERMS}
use Rattle.cox_rowcheck.proofs.AddedProducts.{added-none, added-size, added-more, added-all, first-terms}
use Rattle.cox_rowcheck.proofs.sums.add_product.Goals as goal

-- the first terms of r are as small as r
narrow : (r : List ℤ) (n : ℕ) → ((k : ℕ) → coefficient (take n r) k ≡ coefficient r k) → HasSmallCoefficients r
    → HasSmallCoefficients (take n r)
narrow r n same small k = rw (same k) (small k)

pub loop-k-init : goal.loop-k-init
loop-k-init c = added-none c.args.sum.now (take c.min.result c.args.r.now) c.args.p.now

pub add_multiple-requires-clause-room : goal.add_multiple-requires-clause-room
add_multiple-requires-clause-room c = λ k.
    let r = c.args.r.now
    in let fits : FitsSigned w64 (coefficient c.args.p.now c.loop-k.k) = rw (← c.coefficient.ensures) (search rules)
    in let small = narrow r c.min.result (first-terms r TERMS c.min.result c.min.ensures c.requires.low) c.requires.narrow
    in let bound = added-size c.loop-k.sum (take c.min.result r) c.args.p.now c.loop-k.k k
    (unsigned_abs (coefficient c.args.sum.now k) + c.loop-k.k * 2 ^ 94) (c.loop-k.invariant.size k) small c.requires.small
    in rw (c.coefficient.ensures, to_z-of_z w64 (coefficient c.args.p.now c.loop-k.k) fits) (omega (arith, bound, c.requires.room k))

pub loop-k-preserved : goal.loop-k-preserved
loop-k-preserved c =
    let r = c.args.r.now
    in let fits : FitsSigned w64 (coefficient c.args.p.now c.loop-k.k) = rw (← c.coefficient.ensures) (search rules)
    in let small = narrow r c.min.result (first-terms r TERMS c.min.result c.min.ensures c.requires.low) c.requires.narrow
    in added-more c.args.sum.now c.loop-k.sum c.add_multiple.new.sum (take c.min.result r) c.args.p.now c.loop-k.k (c.loop-k.k + 1)
    (omega arith) c.loop-k.invariant small c.requires.small
    (λ j. rw (c.coefficient.ensures, to_z-of_z w64 (coefficient c.args.p.now c.loop-k.k) fits) at (c.add_multiple.ensures j))

pub returns-clause-sum : goal.returns-clause-sum
returns-clause-sum c = added-all c.args.sum.now c.loop-k.sum c.args.r.now (take c.min.result c.args.r.now) c.args.p.now c.loop-k.k
    c.loop-k.invariant (λ m low. c.size-k-end.ensures.low m (omega (arith, low, c.loop-k-test.false)))
    (first-terms c.args.r.now TERMS c.min.result c.min.ensures c.requires.low)
