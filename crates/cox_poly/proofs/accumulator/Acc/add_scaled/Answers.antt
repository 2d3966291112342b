-- There is room for each power, and no sum from the new end on is other than 0.
use Rattle.std.proofs.Common.{◌+◌, ◌<◌, ◌≤◌, length, arith, FitsSigned, w64}
use Rattle.std.proofs.lemmas.Bool.Decides.{nat_tests}
use Rattle.std.proofs.lemmas.Int.{to_z-of_z}
use Rattle.cox_poly.specs.declared.accumulator.TheConstants.{DEGREES}
use Rattle.cox_poly.proofs.AddedMultiples.{HasDegreeBelow-added, IsPolynomial-room}
use Rattle.cox_poly.proofs.accumulator.Acc.add_scaled.Goals as goal

pub invariant_of-self : goal.invariant_of-self
invariant_of-self c =
    let factor_fits : FitsSigned w64 c.args.factor = c.ranges.factor in
    let list = c.coefficients-coefficients.ensures.list in
    let some : 0 < length c.coefficients-coefficients.result.now = grind (arith, nat_tests) in
    let room : c.args.shift + length c.coefficients-coefficients.result.now ≤ DEGREES = rw list
    (IsPolynomial-room DEGREES _ c.args.shift c.coefficients-coefficients.ensures.storable.trimmed (rw (← list) some)
    c.requires.degrees) in (
      omega (arith, c.self.invariant.0),
      HasDegreeBelow-added _ _ _ _ c.args.shift c.self.inside.used _ c.self.invariant.1 c.add_into.ensures (omega arith) (omega arith),
    )

pub add_into-requires-clause-degrees : goal.add_into-requires-clause-degrees
add_into-requires-clause-degrees c =
    let list = c.coefficients-coefficients.ensures.list in
    let some : 0 < length c.coefficients-coefficients.result.now = grind (arith, nat_tests) in
    let room : c.args.shift + length c.coefficients-coefficients.result.now ≤ DEGREES = rw list
    (IsPolynomial-room DEGREES _ c.args.shift c.coefficients-coefficients.ensures.storable.trimmed (rw (← list) some)
    c.requires.degrees) in
    omega (arith, room)

pub add_into-requires-clause-room : goal.add_into-requires-clause-room
add_into-requires-clause-room c =
    let factor_fits : FitsSigned w64 c.args.factor = c.ranges.factor in
    simp to_z-of_z (rw (c.coefficients-coefficients.ensures.list, c.self.view_is) c.requires.room)

pub returns : goal.returns
returns c =
    let factor_fits : FitsSigned w64 c.args.factor = c.ranges.factor in
    record {
      sum = rw (c.coefficients-coefficients.ensures.list, c.self.view_is) at (simp to_z-of_z at c.add_into.ensures);
    }
