-- The search finds the first coefficient beyond the limit, or how many are kept.
use Rattle.std.proofs.Common.{take, arith, rules, FitsSigned, w64}
use Rattle.std.specs.Int.{w128}
use Rattle.std.proofs.lemmas.Int.{ints, to_z-of_z}
use Rattle.std.proofs.lemmas.List.{length-take}
use Rattle.cox_poly.specs.Polynomial.{coefficient, SameCoefficients}
use Rattle.cox_poly.proofs.Limits.{one_fault, no_fault}
use Rattle.cox_poly.proofs.Polynomials.{coefficient-take, coefficient-take_twice, AllWithin-same, AllWithin-take, IsStorable-take}
use Rattle.cox_poly.proofs.Polynomials.{IsFirstAbove-same}
use Rattle.cox_poly.proofs.accumulator.Acc.close.Goals as goal

pub narrowed_list-requires : goal.narrowed_list-requires
narrowed_list-requires c k =
    let limit_fits : FitsSigned w64 c.args.limit = c.ranges.limit in
    let within = AllWithin-take c.args.limit _ c.in-Ok.len (simp to_z-of_z at c.in-Ok.ensures.within) (omega (arith, ints)) k in
    omega (arith, ints, within)

pub returns-in-Err-clause-too_big : goal.returns-in-Err-clause-too_big
returns-in-Err-clause-too_big c =
    let limit_fits : FitsSigned w64 c.args.limit = c.ranges.limit in
    let same : SameCoefficients (take c.self.inside.used c.self.inside.sums) c.args.self.now
    = rw (← c.self.view_is) (coefficient-take _ _ c.self.invariant.1) in
    let value_fits : FitsSigned w128 (coefficient (take c.self.inside.used c.self.inside.sums) c.in-Err.degree) = search rules in
    simp to_z-of_z (one_fault c.args.limit c.args.self.now c.in-Err.degree _
    (IsFirstAbove-same _ _ _ _ _ same (simp to_z-of_z at c.in-Err.ensures.above)))

pub returns-in_err-coefficients-in-Ok-clause-too_big : goal.returns-in_err-coefficients-in-Ok-clause-too_big
returns-in_err-coefficients-in-Ok-clause-too_big c =
    let limit_fits : FitsSigned w64 c.args.limit = c.ranges.limit in
    let same : SameCoefficients (take c.self.inside.used c.self.inside.sums) c.args.self.now
    = rw (← c.self.view_is) (coefficient-take _ _ c.self.invariant.1) in
    no_fault c.args.limit c.args.self.now _ (AllWithin-same c.args.limit _ _ same (simp to_z-of_z at c.in-Ok.ensures.within))
    (λ d v e. let h = rw e at c.from_residual.ensures.1 in absurd (cc))

pub returns-in_ok-coefficients-in-Ok-clause-sum : goal.returns-in_ok-coefficients-in-Ok-clause-sum
returns-in_ok-coefficients-in-Ok-clause-sum c k =
    let same = coefficient-take_twice c.self.inside.sums c.self.inside.used c.in-Ok.len c.self.invariant.1 c.in-Ok.ensures.trimmed k in
    rw (c.from_trimmed.ensures, c.in_ok-coefficients-in-Ok.ensures.items, ← c.self.view_is) same

pub returns-in_ok-coefficients-in-Ok-clause-within : goal.returns-in_ok-coefficients-in-Ok-clause-within
returns-in_ok-coefficients-in-Ok-clause-within c =
    let limit_fits : FitsSigned w64 c.args.limit = c.ranges.limit in
    let same : SameCoefficients (take c.self.inside.used c.self.inside.sums) c.args.self.now = rw (← c.self.view_is)
    (coefficient-take _ _ c.self.invariant.1) in
    AllWithin-same c.args.limit _ _ same (simp to_z-of_z at c.in-Ok.ensures.within)

pub returns-in_ok-coefficients-in-Ok-clause-too_big : goal.returns-in_ok-coefficients-in-Ok-clause-too_big
returns-in_ok-coefficients-in-Ok-clause-too_big c =
    no_fault c.args.limit c.args.self.now _ (returns-in_ok-coefficients-in-Ok-clause-within c) (λ d v e. absurd (cc))

pub from_trimmed-requires : goal.from_trimmed-requires
from_trimmed-requires c =
    let limit_fits : FitsSigned w64 c.args.limit = c.ranges.limit in
    rw c.in_ok-coefficients-in-Ok.ensures.items
    (IsStorable-take c.args.limit _ c.in-Ok.len (simp to_z-of_z at c.in-Ok.ensures.within)
    (omega (arith, ints)) limit_fits c.in-Ok.ensures.trimmed
    (omega (arith, c.self.invariant.0, length-take c.self.inside.used c.self.inside.sums)))
